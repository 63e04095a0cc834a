-- Document 01, "The deck" and "Numbers a call may give back", 15: how an hour is written, and which hours some deck gives.
use Rattle.std.specs.Prelude.{Bool, true, false, ◌&&◌, List, [], ◌∷◌, ℕ}
use Rattle.rules.specs.Words.{same_list}
use Rattle.rules.specs.Refusals.{Outcome, accepted, refused, and_then}
use Rattle.rules.specs.Lines.{fields_of, labelled, Line, line_text}
use Rattle.rules.specs.Record.{head_line, end_line, body}
use Rattle.rules.specs.Reading.{feed, headed, finished}
use Rattle.rules.specs.declared.Plant.{Plant}
use Rattle.rules.specs.declared.Plant.TheVariants.{Unit, Purchase, Fixed}
use Rattle.rules.specs.declared.Basis.{Basis}
use Rattle.rules.specs.declared.Basis.TheVariants.{Low, Generation, Mwh}
use Rattle.rules.specs.declared.Source.{Source}
use Rattle.rules.specs.declared.Delivery.{Delivery}
use Rattle.rules.specs.declared.Direct.{Direct}
use Rattle.rules.specs.declared.Hour.{Hour}

-- the text of some lines, and the rest after it
unfoldable pub texts : List Line → List ℕ → List ℕ
texts [] rest = rest
texts (l ∷ ls) rest = line_text l (texts ls rest)

-- "Order: one H, then sources in any mix, then T lines, then D lines, then E"
unfoldable pub deck_text : Hour → List ℕ
deck_text h = line_text (head_line h) (texts (body h) (line_text end_line []))

-- Whether two hours are the same, by the numbers that each entry holds.

abbrev pub plant_numbers : Plant → List ℕ → List ℕ
plant_numbers (Unit u) t = 0 ∷ u.g ∷ u.h ∷ u.n ∷ u.o ∷ u.e ∷ u.curve.k ∷ u.curve.a ∷ u.curve.b ∷ u.curve.c ∷ u.curve.r ∷ t
plant_numbers (Purchase g rate) t = 1 ∷ g ∷ rate ∷ t
plant_numbers (Fixed g) t = 2 ∷ g ∷ t

abbrev pub source_numbers : Source → List ℕ
source_numbers x = plant_numbers x.plant (x.label.len ∷ x.label.bytes)

abbrev pub delivery_numbers : Delivery → List ℕ
delivery_numbers x = x.sequence.0 ∷ x.kind ∷ x.block ∷ x.mwh ∷ x.label.len ∷ x.label.bytes

abbrev pub basis_numbers : Basis → List ℕ → List ℕ
basis_numbers Low t = 0 ∷ t
basis_numbers Generation t = 1 ∷ t
basis_numbers (Mwh v) t = 2 ∷ v ∷ t

abbrev pub direct_numbers : Direct → List ℕ
direct_numbers x = basis_numbers x.basis (x.percent ∷ x.source ∷ x.delivery ∷ [])

abbrev pub count_numbers : Hour → List ℕ
count_numbers h = h.losses ∷ h.nsources ∷ h.ndeliveries ∷ h.ndirects ∷ []

-- two lists whose entries hold the same numbers
unfoldable pub same_by : {A : Type 0} → (A → List ℕ) → List A → List A → Bool
same_by f [] [] = true
same_by f [] (y ∷ ys) = false
same_by f (x ∷ xs) [] = false
same_by f (x ∷ xs) (y ∷ ys) = same_list (f x) (f y) && same_by f xs ys

unfoldable pub same_hour : Hour → Hour → Bool
same_hour a b =
    same_list (count_numbers a) (count_numbers b) && same_by source_numbers a.sources b.sources &&
    same_by delivery_numbers a.deliveries b.deliveries && same_by direct_numbers a.directs b.directs

-- The hours that some deck gives.

unfoldable pub all_labelled : List Line → Bool
all_labelled [] = true
all_labelled (l ∷ ls) = labelled (fields_of l.letter) l.fields && all_labelled ls

-- what the reader's rules make of an hour's own lines
unfoldable pub given : Hour → Outcome Hour
given h = and_then (headed (head_line h)) λ start. and_then (feed start (body h)) finished

abbrev pub gives : Outcome Hour → Hour → Bool
gives (accepted x) h = same_hour x h
gives (refused r) h = false

-- an hour that some deck gives: its labels are labels, and its own lines give it; every other is an "hour record that no deck gives" (15)
unfoldable pub valid : Hour → Bool
valid h = all_labelled (body h) && gives (given h) h
