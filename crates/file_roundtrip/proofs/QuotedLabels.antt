-- A written label is read back.
--     label_read      where a label stands between its quotes, and no quote after them, it is read
use Rattle.std.specs.Prelude.{◌≡◌, Bool, ℕ, suc}
use Rattle.std.proofs.Math.Path.{refl}
use Rattle.std.proofs.Common.{eqb-true}
use Rattle.std.proofs.Math.Bool.{true, false}
use mathlib.Core.List.{List, [], ◌∷◌}
use Rattle.std.proofs.Math.Dec.{eqb}
use Rattle.std.proofs.Math.ListN.{drop}
use Rattle.rules.specs.Words.{when◌then◌else◌}
use Rattle.rules.specs.Fields as fields
use Rattle.rules.specs.Fields.{Field, is_character, Chars, all_characters, is_label}
use Rattle.rules.specs.Spreadsheet as spreadsheet
use Rattle.rules.specs.Spreadsheet.{doubled, label_field, text_at, pushed, quoted, label_at}
use Rattle.laws.specs.Choices.{both_true}
use Rattle.roundtrip.specs.Labels.{label_from_lem}
use Rattle.file_roundtrip.specs.Standing.{Reads, reads_then, text_read}
use Rattle.file_roundtrip.specs.QuotedLabels.{Unquoted, drop_suc, closed_read}

pushed_read : (s rest : List ℕ) (c : ℕ) (x : Field Chars) (cs : Chars) → Reads s x cs rest → Reads s (pushed c x) (c ∷ cs) rest
pushed_read s rest c x cs r = record { next = r.next; is = rw r.is; past = r.past }

quoted_read : (cs s rest : List ℕ) (i : ℕ) → all_characters cs ≡ true → Unquoted rest → drop i s ≡ doubled cs (34 ∷ rest)
    → Reads s (quoted false i (doubled cs (34 ∷ rest))) cs rest
unfolding spreadsheet.doubled spreadsheet.quoted fields.all_characters
quoted_read [] s rest i a u e = record { next = suc i; is = closed_read rest (suc i) u; past = drop_suc s rest i 34 e }
quoted_read (c ∷ cs) s rest i a u e =
    let p = both_true (is_character c) (all_characters cs) a in
    go (eqb c 34) refl p.0 e (λ i. quoted_read cs s rest i p.1 u)
  where
    go : (q : Bool) → eqb c 34 ≡ q → is_character c ≡ true → drop i s ≡ (when q then 34 ∷ 34 ∷ doubled cs (34 ∷ rest) else c ∷ doubled cs (34 ∷ rest))
        → ((i : ℕ) → drop i s ≡ doubled cs (34 ∷ rest) → Reads s (quoted false i (doubled cs (34 ∷ rest))) cs rest)
        → Reads s (quoted false i (when q then 34 ∷ 34 ∷ doubled cs (34 ∷ rest) else c ∷ doubled cs (34 ∷ rest))) (c ∷ cs) rest
    go true q k e ih =
        let w = doubled cs (34 ∷ rest) in
        rw (eqb-true c 34 q) (pushed_read s rest 34 _ cs (ih (suc (suc i)) (drop_suc s w (suc i) 34 (drop_suc s (34 ∷ w) i 34 e))))
    go false q k e ih = rw (q, k) (pushed_read s rest c _ cs (ih (suc i) (drop_suc s (doubled cs (34 ∷ rest)) i c e)))

pub label_read : (cs s rest : List ℕ) (at : ℕ) → is_label cs ≡ true → Unquoted rest → drop at s ≡ label_field cs rest → Reads s (label_at s at) cs rest
unfolding spreadsheet.label_at
label_read cs s rest at lb u e =
    let w = doubled cs (34 ∷ rest) in
    reads_then s (text_at s at (44 ∷ 34 ∷ [])) _ tt cs w rest (text_read (44 ∷ 34 ∷ []) s w at e) λ p pe.
    let r : Reads s (quoted false p (drop p s)) cs rest = rw pe (quoted_read cs s rest p (label_from_lem cs lb).all u pe) in
    record { next = r.next; is = rw (r.is, lb); past = r.past }
