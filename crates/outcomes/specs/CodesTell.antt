-- The one number that a call for C gives back for a refusal tells the refusal's number and its place: no deck's refusal has a place above 99, no
-- reconstruction's and no spreadsheet's one above 999, and a file's is at most one more than it has bytes.
--     deck_told, cells_told, spreadsheet_told, file_told
use Rattle.std.specs.Prelude.{Bool, true, false, not, ◌&&◌, List, [], ◌∷◌, ◌≡◌, ℕ, zero, suc, ◌+◌, ◌-◌, ◌/◌, ◌%◌, ◌≤◌, ◌<◌, eqb, leb, ltb, length}
use Rattle.std.proofs.Math.Option.{Option, none, some}
use Rattle.std.proofs.Math.Path.{refl}
use Rattle.std.proofs.Common.{sym, ap, ◌∙◌, arith, leb-false}
use Rattle.std.proofs.lemmas.Bool.{not-false}
use Rattle.balance.specs.EveryGroupIsDone.{every_number_is_low}
use Rattle.balance.proofs.RefusedExactly.{unload_refused, credit_refused}
use Rattle.refusals.specs.Codes.{code_of}
use Rattle.file_roundtrip.specs.FileRoundTrip.{refusal_is_16}
use Rattle.laws.specs.Keys.{among, among_first, among_later, among_turns, among_found}
use Rattle.laws.specs.Lists.{find_to_passes}
use Rattle.roundtrip.specs.DeckRoundTrip.{accepted_is_valid}
use Rattle.rules.specs.Calls as calls
use Rattle.rules.specs.Calls.{reconstruction, file_for, deck_spreadsheet, spreadsheet_lines, into}
use Rattle.rules.specs.Fields.{Chars, Field, got, malformed}
use Rattle.rules.specs.Group as group_rules
use Rattle.rules.specs.Group.{group_lines, remainder, unload, credit}
use Rattle.rules.specs.Hour as hours
use Rattle.rules.specs.Hour.{Progress, cell_count, cells_of, group, groups, opening, keys, member, reconstructed, scheduled, shared, took_all, turns}
use Rattle.rules.specs.Lines.{Fields, H, U, P, F, T, D, E, Letter, Line, fields_of, line_at, ranged}
use Rattle.rules.specs.Reading as readings
use Rattle.rules.specs.Reading.{all_placed, basis_kept, below_high, delivered, delivery_named, delivery_taken, delivery_used, direct_taken, finished, generated, headed, headed_as, is_end, line_number, lines_from, named, on_line, percents_of, reading, source_taken, source_used, taken, taken_as, turn, unit_named, unplaced}
use Rattle.rules.specs.Record as records
use Rattle.rules.specs.Record.{delivery_of, fixed_of, label_of, purchase_of, source_at, unit_of}
use Rattle.rules.specs.Refusals.{Outcome, accepted, refused, refuse, and_then, number_of, place_of}
use Rattle.rules.specs.Report.{ReportLine, hour_lines, report_texts}
use Rattle.rules.specs.Spreadsheet.{file_lines, file_text}
use Rattle.rules.specs.Units.{levelled}
use Rattle.rules.specs.Words.{when◌then◌else◌}
use Rattle.rules.specs.Writing.{valid}
use Rattle.rules.specs.declared.Basis.{Basis}
use Rattle.rules.specs.declared.Delivery.{Delivery}
use Rattle.rules.specs.declared.Hour.{Hour}
use Rattle.rules.specs.declared.InternalSequence.{InternalSequence}
use Rattle.rules.specs.declared.Key.{Key}
use Rattle.rules.specs.declared.Label.{Label}
use Rattle.rules.specs.declared.Refusal.{Refusal}
use Rattle.rules.specs.declared.Refusal.TheVariants.{TooLong, Form, Range, Full, Used, Levels, Names, OtherBasis, Percents, Overdrawn, Unplaced, NoRoom, NoHeadroom, Short, NoDeck, FileRecord}
use Rattle.rules.specs.declared.Running.{Running}
use Rattle.rules.specs.declared.Source.{Source}

-- an outcome whose place, where it is refused, is at most m, and whose value, where it is accepted, has Held
abbrev Told : {A : Type 0} → ℕ → (A → Type 0) → Outcome A → Type 0
Told m Held (accepted a) = Held a
Told m Held (refused r) = place_of r ≤ m

refuse_told : {A : Type 0} (m : ℕ) (Held : A → Type 0) (b : Bool) (r : Refusal) (o : Outcome A) → place_of r ≤ m → (b ≡ false → Told m Held o) → Told m Held (refuse b r o)
refuse_told m Held true r o l t = l
refuse_told m Held false r o l t = t refl

then_told : {A B : Type 0} (m : ℕ) (Held : A → Type 0) (Kept : B → Type 0) (o : Outcome A) (f : A → Outcome B) → Told m Held o → ((a : A) → Held a → Told m Kept (f a)) → Told m Kept (and_then o f)
then_told m Held Kept (accepted a) f t g = g a t
then_told m Held Kept (refused r) f t g = t

told_refused : {A : Type 0} (m : ℕ) (Held : A → Type 0) (o : Outcome A) (r : Refusal) → Told m Held o → o ≡ refused r → place_of r ≤ m
told_refused m Held (accepted a) r t e = let z : ◌≡◌ {A = ℕ} 0 1 = cc in absurd (omega arith)
told_refused m Held (refused q) r t e = let k : q ≡ r = cc in rw k at t

-- Reading.

-- an hour of so many entries as any deck has
record Few (h : Hour) : Type 0 where
  sources : h.nsources ≤ 32
  deliveries : h.ndeliveries ≤ 32
  directs : h.ndirects ≤ 32

abbrev Read : Outcome Hour → Type 0
Read = Told 99 Few

module _ (h : Hour) (w : Few h) where
  line_low : line_number h ≤ 98
  line_low = omega (arith, w.sources, w.deliveries, w.directs)

  low : line_number h ≤ 99
  low = omega (arith, line_low)

  pass : (b : Bool) (r : Refusal) (o : Outcome Hour) → place_of r ≡ line_number h → (b ≡ false → Read o) → Read (refuse b r o)
  pass b r o e t = refuse_told 99 Few b r o (omega (arith, e, low)) t

  name : (i : Option ℕ) (f : ℕ → Outcome Hour) → ((i : ℕ) → Read (f i)) → Read (named i (Names (line_number h)) f)
  name none f t = low
  name (some i) f t = t i

  source_told : (in_range : Bool) (x : Source) → Read (source_taken h in_range x)
  source_told in_range x =
      pass (not (eqb (h.ndeliveries + h.ndirects) 0)) _ _ refl λ a. pass (not in_range) _ _ refl λ b. pass (leb 32 h.nsources) _ _ refl λ room.
      pass (source_used h x.label) _ _ refl λ c. pass (not (levelled x.plant)) _ _ refl λ d.
      record { sources = omega (arith, leb-false 32 h.nsources room); deliveries = w.deliveries; directs = w.directs }

  delivery_told : (in_range : Bool) (x : Delivery) → Read (delivery_taken h in_range x)
  delivery_told in_range x =
      pass (not (eqb h.ndirects 0)) _ _ refl λ a. pass (not in_range) _ _ refl λ b. pass (leb 32 h.ndeliveries) _ _ refl λ room. pass (delivery_used h x.label) _ _ refl λ c.
      record { sources = w.sources; deliveries = omega (arith, leb-false 32 h.ndeliveries room); directs = w.directs }

  direct_told : (in_range : Bool) (b : Basis) (percent : ℕ) (unit delivery : Label) → Read (direct_taken h in_range b percent unit delivery)
  direct_told in_range b percent unit delivery =
      pass (not in_range) _ _ refl λ a. pass (leb 32 h.ndirects) _ _ refl λ room. name (unit_named h unit) _ λ i. name (delivery_named h delivery) _ λ j.
      pass (not (basis_kept h i b && below_high b (source_at h i).plant)) _ _ refl λ c. pass (ltb 100 (percents_of h i + percent)) _ _ refl λ d.
      record { sources = w.sources; deliveries = w.deliveries; directs = omega (arith, leb-false 32 h.ndirects room) }

  taken_told : (l : Letter) (v : Fields Chars (fields_of l)) → Read (taken_as h l v)
  taken_told H v = low
  taken_told U v = source_told (ranged (fields_of U) v) (unit_of v)
  taken_told P v = source_told (ranged (fields_of P) v) (purchase_of v)
  taken_told F v = source_told (ranged (fields_of F) v) (fixed_of v)
  taken_told T v = delivery_told (ranged (fields_of T) v) (delivery_of v)
  taken_told D v = direct_told (ranged (fields_of D) v) v.0 v.1.0 (label_of v.1.1.0) (label_of v.1.1.1.0)
  taken_told E v = low

  placed_told : (i : Option ℕ) → unplaced h ≡ i → Read (all_placed h i)
  placed_told none e = w
  placed_told (some i) e = omega (arith, (find_to_passes _ _ i e).0, w.sources, w.deliveries)

  finished_told : Read (finished h)
  unfolding readings.finished
  finished_told = refuse_told 99 Few (ltb (generated h) (h.losses + delivered h)) Overdrawn _ (omega arith) λ a. placed_told (unplaced h) refl

end_told : (h : Hour) → Few h → (b : Bool) → Read (when b then finished h else refused (Form (line_number h + 1)))
end_told h w true = finished_told h w
end_told h w false = omega (arith, line_low h w)

-- one line, where what comes after it is told
turn_told : (s : List ℕ) (h : Hour) → Few h → (go : Hour → ℕ → Outcome Hour) → ((after : Hour) → Few after → (next : ℕ) → Read (go after next)) → (l : Line) (next : ℕ) → Read (turn s h go l next)
unfolding readings.taken
turn_told s h w go t l next = pick (is_end l.letter)
  where
    pick : (b : Bool) → Read (when b then (when eqb next (length s) then finished h else refused (Form (line_number h + 1))) else and_then (taken h l) λ after. go after next)
    pick true = end_told h w (eqb next (length s))
    pick false = then_told 99 Few Few (taken h l) (λ after. go after next) (taken_told h w l.letter l.fields) (λ after v. t after v next)

on_told : (x : Field Line) (r : Refusal) (f : Line → ℕ → Outcome Hour) → place_of r ≤ 99 → ((l : Line) (next : ℕ) → Read (f l next)) → Read (on_line x r f)
on_told (got l next) r f low t = t l next
on_told malformed r f low t = low

lines_told : (f : ℕ) (s : List ℕ) (h : Hour) → Few h → (at : ℕ) → Read (lines_from f s h at)
unfolding readings.lines_from
lines_told zero s h w at = low h w
lines_told (suc f) s h w at = on_told (line_at s at) (Form (line_number h)) (turn s h (lines_from f s)) (low h w) (turn_told s h w (lines_from f s) (lines_told f s))

headed_told : (l : Letter) (v : Fields Chars (fields_of l)) → Read (headed_as l v)
unfolding records.started
headed_told H v = refuse_told 99 Few (not (ranged (fields_of H) v)) (Range 1) _ (omega arith) λ a. record { sources = omega arith; deliveries = omega arith; directs = omega arith }
headed_told U v = omega arith
headed_told P v = omega arith
headed_told F v = omega arith
headed_told T v = omega arith
headed_told D v = omega arith
headed_told E v = omega arith

reading_told : (s : List ℕ) → Read (reading s)
unfolding readings.reading readings.headed
reading_told s =
    refuse_told 99 Few (ltb 8192 (length s)) TooLong _ (omega arith) λ a. on_told (line_at s 0) (Form 1) _ (omega arith) λ l next.
    then_told 99 Few Few (headed l) (λ h. lines_from (length s) s h next) (headed_told l.letter l.fields) (λ h w. lines_told (length s) s h w next)

-- Reconstruction.

abbrev Any : {A : Type 0} → A → Type 0
Any a = Unit {0}

abbrev Gone : {A : Type 0} → Outcome A → Type 0
Gone = Told 999 Any

module _ (number : InternalSequence) (n : ℕ) (ss : List Running) (r : ℕ) where
  unload_told : number.0 ≤ 999 → (o : Outcome (List Running)) → unload number n ss r ≡ o → Gone o
  unload_told l (accepted us) e = tt
  unload_told l (refused y) e = let k = ((unload_refused number n ss r).refused_only y e).1 in rw k l

  credit_told : number.0 ≤ 999 → (o : Outcome (List Running)) → credit number n ss r ≡ o → Gone o
  credit_told l (accepted us) e = tt
  credit_told l (refused y) e = let k = ((credit_refused number n ss r).refused_only y e).1 in rw k l

remainder_told : (number : InternalSequence) (n total took : ℕ) (ss : List Running) → number.0 ≤ 999 → Gone (remainder number n total took ss)
unfolding group_rules.remainder
remainder_told number n total took ss l = go (leb took total)
  where
    go : (b : Bool) → Gone (when b then unload number n ss (total - took) else credit number n ss (took - total))
    go true = unload_told number n ss (total - took) l _ refl
    go false = credit_told number n ss (took - total) l _ refl

group_told : (h : Hour) (ks : List Key) (x : Key) (p : Progress) → x.number.0 ≤ 999 → Gone (group h ks x p)
unfolding hours.group hours.rest
group_told h ks x p l =
    let ts = group_lines (member ks x) h.directs p.states h.ndirects in
    then_told 999 Any Any (remainder x.number h.nsources (scheduled h ks x h.ndeliveries) (took_all h.nsources p.states ts) ts)
    (λ us. accepted (record { states = us; cells = shared h ks x p.states ts us p.cells }))
    (remainder_told x.number _ _ _ _ l) (λ us t. tt)

groups_told : (h : Hour) (ks xs : List Key) (p : Progress) → ((y : Key) → among xs y ≡ true → y.number.0 ≤ 999) → Gone (groups h ks xs p)
unfolding hours.groups
groups_told h ks [] p low = tt
groups_told h ks (x ∷ xs) p low =
    then_told 999 Any Any (group h ks x p) (groups h ks xs) (group_told h ks x p (low x (among_first x xs)))
    (λ q t. groups_told h ks xs q (λ y e. low y (among_later x xs y e)))

-- a key among the turns is a delivery's
turn_low : (h : Hour) → valid h ≡ true → (y : Key) → among (turns (keys h)) y ≡ true → y.number.0 ≤ 999
turn_low h v y e =
    let f = among_found (keys h) y (sym (among_turns (keys h) y) ∙ e) in
    let l = every_number_is_low h v f.at in
    let g = ap (λ (k : Key). k.number.0) f.is in
    omega arith

run_told : (h : Hour) → valid h ≡ true → Gone (reconstructed h)
unfolding hours.reconstructed
run_told h v = groups_told h (keys h) (turns (keys h)) (opening h) (turn_low h v)

reconstruction_told : (h : Hour) (size : ℕ) → Gone (reconstruction h size)
unfolding calls.reconstruction calls.cells_for hours.answer
reconstruction_told h size =
    refuse_told 999 Any (not (valid h)) NoDeck _ (omega arith) λ a. refuse_told 999 Any (ltb size (cell_count h)) Short _ (omega arith) λ b.
    then_told 999 Any Any (reconstructed h) (λ p. accepted (cells_of h p)) (run_told h (not-false (valid h) a)) (λ p t. tt)

hour_file_told : (h : Hour) (size : ℕ) → valid h ≡ true → Gone (file_for h size)
unfolding calls.file_for
hour_file_told h size v =
    then_told 999 Any Any (reconstructed h) (λ p. into size (file_text (hour_lines h p))) (run_told h v)
    (λ p t. refuse_told 999 Any (ltb size (length (file_text (hour_lines h p)))) Short _ (omega arith) λ a. tt)

-- What the code tells.

-- no refusal has the number 0, so that its code is 2^32 or more
pub number_least : (r : Refusal) → 1 ≤ number_of r
number_least TooLong = omega arith
number_least (Form line) = omega arith
number_least (Range line) = omega arith
number_least (Full line) = omega arith
number_least (Used line) = omega arith
number_least (Levels line) = omega arith
number_least (Names line) = omega arith
number_least (OtherBasis line) = omega arith
number_least (Percents line) = omega arith
number_least Overdrawn = omega arith
number_least (Unplaced line) = omega arith
number_least (NoRoom x) = omega arith
number_least (NoHeadroom x) = omega arith
number_least Short = omega arith
number_least NoDeck = omega arith
number_least (FileRecord n) = omega arith

pub record Tells (r : Refusal) : Type 0 where
  pub number : code_of r / 4_294_967_296 ≡ number_of r
  pub place : code_of r % 4_294_967_296 ≡ place_of r

tells : (r : Refusal) → place_of r < 4_294_967_296 → Tells r
tells r l = record { number = omega arith; place = omega arith }

-- of a deck that is refused
pub deck_told : (s : List ℕ) (r : Refusal) → reading s ≡ refused r → Tells r
deck_told s r e = let l = told_refused 99 Few (reading s) r (reading_told s) e in tells r (omega arith)

-- of an hour record that is
pub cells_told : (h : Hour) (size : ℕ) (r : Refusal) → reconstruction h size ≡ refused r → Tells r
cells_told h size r e = let l = told_refused 999 Any (reconstruction h size) r (reconstruction_told h size) e in tells r (omega arith)

-- of a deck that has no spreadsheet file, or one too long for what is lent
pub spreadsheet_told : (s : List ℕ) (size : ℕ) (r : Refusal) → deck_spreadsheet s size ≡ refused r → Tells r
unfolding calls.deck_spreadsheet
spreadsheet_told s size r e = go (reading s) refl e
  where
    go : (o : Outcome Hour) → reading s ≡ o → (and_then o λ h. file_for h size) ≡ refused r → Tells r
    go (accepted h) oe e = let l = told_refused 999 Any (file_for h size) r (hour_file_told h size (accepted_is_valid s h oe)) e in tells r (omega arith)
    go (refused q) oe e = let k : q ≡ r = cc in deck_told s r (oe ∙ ap refused k)

-- of a file that is refused
pub file_told : (s : List ℕ) (size : ℕ) (r : Refusal) → length s < 4_294_967_295 → spreadsheet_lines s size ≡ refused r → Tells r
unfolding calls.spreadsheet_lines
file_told s size r short e = go (file_lines s) refl e
  where
    go : (o : Outcome (List ReportLine)) → file_lines s ≡ o → (and_then o λ ls. into size (report_texts ls)) ≡ refused r → Tells r
    go (accepted ls) oe e =
        let l = told_refused 999 Any (into size (report_texts ls)) r (refuse_told 999 Any (ltb size (length (report_texts ls))) Short _ (omega arith) λ a. tt) e in
        tells r (omega arith)
    go (refused q) oe e =
        let k : q ≡ r = cc in
        let l = (refusal_is_16 s r (oe ∙ ap refused k)).2 in
        tells r (omega arith)
