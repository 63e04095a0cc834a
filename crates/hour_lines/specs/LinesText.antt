-- The lines of an hour one after another, each by a text of its own: a report's, or a file's.
use Rattle.std.specs.Prelude.{◌≡◌}
use Rattle.std.proofs.Math.Path.{refl, ap}
use Rattle.std.proofs.Common.{sym, ◌∙◌}
use mathlib.Core.List.{List, [], ◌∷◌, ◌++◌}
use Prim.Native.Nat.{ℕ, zero, suc, ◌<◌}
use Rattle.rules.specs.Words as words
use Rattle.rules.specs.Words.{list_to}
use Rattle.rules.specs.Hour.{Progress}
use Rattle.rules.specs.Report as report
use Rattle.rules.specs.Report.{ReportLine, end, header_line, pair_line, open_line, hour_lines}
use Rattle.rules.specs.declared.Hour.{Hour}
use Rattle.write_fields.specs.Inked as inked
use Rattle.write_fields.specs.Inked.{Text, up_to, up_to_same}

-- lines before any rest
unfoldable pub lines_text : (ReportLine → Text) → List ReportLine → Text
lines_text f [] rest = rest
lines_text f (l ∷ ls) rest = f l (lines_text f ls rest)

module _ (f : ReportLine → Text) where
  lines_append : (ls ms : List ReportLine) (rest : List ℕ) → lines_text f (ls ++ ms) rest ≡ lines_text f ls (lines_text f ms rest)
  unfolding lines_text
  lines_append [] ms rest = refl
  lines_append (l ∷ ls) ms rest = ap (f l) (lines_append ls ms rest)

  lines_up_to : (g : ℕ → List ReportLine) (n : ℕ) (rest : List ℕ) → lines_text f (list_to g n) rest ≡ up_to (λ i. lines_text f (g i)) n rest
  unfolding lines_text words.list_to inked.up_to
  lines_up_to g zero rest = refl
  lines_up_to g (suc n) rest = lines_append (list_to g n) (g n) rest ∙ lines_up_to g n (lines_text f (g n) rest)

  -- The lines of an hour, before any rest.

  module _ (h : Hour) (p : Progress) where
    abbrev pub pairs_text : ℕ → Text
    pairs_text j = up_to (λ i. f (pair_line h p j i)) h.nsources

    abbrev pub opens_text : Text
    opens_text = up_to (λ i. f (open_line h p i)) h.nsources

    abbrev pub hour_text : Text
    hour_text rest = f (header_line h) (up_to pairs_text h.ndeliveries (opens_text (f end rest)))

    abbrev pairs : ℕ → List ReportLine
    pairs j = list_to (λ i. pair_line h p j i ∷ []) h.nsources

    abbrev opens : List ReportLine
    opens = list_to (λ i. open_line h p i ∷ []) h.nsources

    pairs_text_lem : (j : ℕ) (rest : List ℕ) → lines_text f (pairs j) rest ≡ pairs_text j rest
    unfolding lines_text
    pairs_text_lem j rest = lines_up_to (λ i. pair_line h p j i ∷ []) h.nsources rest

    opens_text_lem : (rest : List ℕ) → lines_text f opens rest ≡ opens_text rest
    unfolding lines_text
    opens_text_lem rest = lines_up_to (λ i. open_line h p i ∷ []) h.nsources rest

    pub hour_lines_lem : (rest : List ℕ) → lines_text f (hour_lines h p) rest ≡ hour_text rest
    unfolding report.hour_lines lines_text
    hour_lines_lem rest =
        let a = list_to pairs h.ndeliveries in
        let last = opens_text (f end rest) in
        let inner : lines_text f (opens ++ (end ∷ [])) rest ≡ last = lines_append opens (end ∷ []) rest ∙ opens_text_lem (f end rest) in
        let rows : lines_text f a last ≡ up_to pairs_text h.ndeliveries last =
        lines_up_to pairs h.ndeliveries last ∙ up_to_same (λ j. lines_text f (pairs j)) pairs_text h.ndeliveries (λ j l w. pairs_text_lem j w) last in
        ap (f (header_line h)) (lines_append a (opens ++ (end ∷ [])) rest ∙ ap (lines_text f a) inner ∙ rows)

    -- the lines as they are written, row by row, where each of them is the hour's
    pub lines_made : (rows : ℕ → ℕ → Text) (left : ℕ → Text)
        → ((j i : ℕ) → j < h.ndeliveries → i < h.nsources → (rest : List ℕ) → rows j i rest ≡ f (pair_line h p j i) rest)
        → ((i : ℕ) → i < h.nsources → (rest : List ℕ) → left i rest ≡ f (open_line h p i) rest)
        → (rest : List ℕ) → f (header_line h) (up_to (λ j. up_to (rows j) h.nsources) h.ndeliveries (up_to left h.nsources (f end rest))) ≡ lines_text f (hour_lines h p) rest
    lines_made rows left pairs_same opens_same rest =
        let written : Text = up_to (λ j. up_to (rows j) h.nsources) h.ndeliveries in
        let inner = up_to_same left (λ i. f (open_line h p i)) h.nsources opens_same (f end rest) in
        let outer = up_to_same (λ j. up_to (rows j) h.nsources) pairs_text h.ndeliveries (λ j l. up_to_same (rows j) (λ i. f (pair_line h p j i)) h.nsources (λ i m. pairs_same j i l m)) (opens_text (f end rest)) in
        ap (λ (w : List ℕ). f (header_line h) (written w)) inner ∙ ap (f (header_line h)) outer ∙ sym (hour_lines_lem rest)
