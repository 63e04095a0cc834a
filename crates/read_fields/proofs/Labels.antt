-- The steps of reading a label in a part.
use Rattle.std.specs.Prelude.{Option, Some, option_map, option_and_then}
use Rattle.std.proofs.lemmas.Bool.Decides.{nat_tests}
use Rattle.rules.specs.Words.{when◌then◌else◌}
use mathlib.Core.Path.{◌≡◌, refl}
use mathlib.Core.Bool.{Bool, true, false}
use mathlib.Core.List.{List, [], ◌∷◌}
use mathlib.Core.Option as math
use mathlib.Core.Option.{none, some}
use Prim.Native.Nat.{ℕ, ◌+◌, ◌-◌, ◌<◌, ◌≤◌}
use native.Mathlib.Numerals.{add-one}
use native.Mathlib.Omega.{arith}
use lib.Dec.{eqb}
use lib.ListN.{length, take, drop, length-drop}
use Rattle.rules.specs.Fields as fields
use Rattle.rules.specs.Fields.{Field, got, malformed, on_field, byte, byte_at, is_character, is_escaped, closed, closing, label_end, label_from, spaced_label}
use Rattle.roundtrip.specs.Labels.{label_within}
use Rattle.read_fields.specs.Answers.{step_of, end_of, label_field}
use Rattle.read_fields.proofs.Bytes.{part_rest}

pub label_first : (b : ℕ) (t : List ℕ) → label_end (b ∷ t) ≡ (when eqb b 34 then closing false 0 1 t else none)
unfolding fields.label_end
label_first b t = refl

pub label_none : (l : List ℕ) → length l ≡ 0 → label_end l ≡ none
unfolding fields.label_end
label_none [] h = refl
label_none (b ∷ t) h = absurd (omega arith)

module _ (n i : ℕ) where
  pub closing_none : (e : Bool) (l : List ℕ) → length l ≡ 0 → closing e n i l ≡ none
  unfolding fields.closing
  closing_none true [] h = refl
  closing_none false [] h = refl
  closing_none e (b ∷ t) h = absurd (omega arith)

  -- one byte more, and one after a backslash
  pub closing_more : (b : ℕ) (t : List ℕ) → closing false n i (b ∷ t)
      ≡ (when eqb b 34 then closed n i else
      when eqb b 92 then closing true n (i + 1) t else
      when is_character b then closing false (n + 1) (i + 1) t else none)
  unfolding fields.closing
  closing_more b t = rw (add-one n, add-one i)

  pub closing_escaped : (b : ℕ) (t : List ℕ) → closing true n i (b ∷ t) ≡ (when is_escaped b then closing false (n + 1) (i + 1) t else none)
  unfolding fields.closing
  closing_escaped b t = rw (add-one n, add-one i)

pub ruleset label_steps = (label_first, label_none, closing_none, closing_more, closing_escaped, nat_tests)

-- the label reader's answer on the part from d on
module _ (s : List ℕ) (d : ℕ) where
  abbrev pub end_after : Option ℕ
  end_after = end_of (label_end (take (length s - d) (drop d s)))

  pub end_inside : (z : ℕ) → d ≤ length s → end_after ≡ Some z → d + z < length s
  end_inside z h e = go (label_end (drop d s)) refl (rw part_rest at e)
    where
      go : (x : math.Option ℕ) → label_end (drop d s) ≡ x → end_of x ≡ Some z → d + z < length s
      go (some y) le e = let k : y ≡ z = cc in omega (arith, label_within (drop d s) y le, length-drop d s)
      go none le e = cc

-- a label after its space, told from the label reader's answer
pub label_told : (s : List ℕ) (at : ℕ)
    → label_field (spaced_label s at)
    ≡ option_and_then (λ d. option_map (λ z. (record { from = d + 1; upto = d + z }, d + z + 1)) (end_after s d)) (step_of (byte_at s at 32))
unfolding fields.spaced_label
label_told s at = go (byte_at s at 32)
  where
    after : (d : ℕ) (x : math.Option ℕ) → label_field (label_from d x) ≡ option_map (λ z. (record { from = d + 1; upto = d + z }, d + z + 1)) (end_of x)
    after d (some z) = refl
    after d none = refl

    go : (f : Field (Unit {0}))
        → label_field (on_field f λ u d. label_from d (label_end (drop d s)))
        ≡ option_and_then (λ d. option_map (λ z. (record { from = d + 1; upto = d + z }, d + z + 1)) (end_after s d)) (step_of f)
    go (got u d) = rw (part_rest s d) (after d (label_end (drop d s)))
    go malformed = refl
