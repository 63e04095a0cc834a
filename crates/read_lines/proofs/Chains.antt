-- A line's answer is the chain of its fields' answers, once for every list of kinds, and so for each line.
use Rattle.std.specs.Prelude.{◌≡◌, refl, List, [], ◌∷◌, ℕ, Option, None, option_map, option_and_then}
use mathlib.Core.Path.{sym, ◌∙◌}
use Rattle.rules.specs.Fields.{Field, got, malformed, on_field, byte_at, Place, spaced_number, spaced_label, spaced_basis}
use Rattle.rules.specs.Lines as lines
use Rattle.rules.specs.Lines.{Kind, number, basis, label, Letter, H, U, P, F, T, D, Fields, fields_of, push, fields_at, places_at}
use Rattle.read_fields.specs.Answers.{told_as, cut, step_of, number_field, cut_basis, basis_field, place_of, label_field}
use Rattle.read_lines.specs.Answers.{cut_fields, line_as, head_of, unit_of, purchase_of, fixed_of, delivery_of, direct_of, head_line, unit_line, purchase_line, fixed_line, delivery_line, direct_line}

-- Chains.

module _ {R : Type 0} where
  abbrev pub fields_then : (ks : List Kind) → List ℕ → ℕ → (Fields Place ks → ℕ → Option R) → Option R
  fields_then [] s at after = after tt at
  fields_then (number x ∷ ks) s at after = option_and_then (λ (v, p). fields_then ks s p (λ w n. after (v, w) n)) (number_field (spaced_number s at))
  fields_then (basis x ∷ ks) s at after = option_and_then (λ (v, p). fields_then ks s p (λ w n. after (v, w) n)) (basis_field (spaced_basis s at))
  fields_then (label ∷ ks) s at after =
      option_and_then (λ (v, p). fields_then ks s p (λ w n. after (record { from = v.from; upto = v.upto }, w) n)) (label_field (spaced_label s at))

  -- the fields, LF, and the place after it
  abbrev pub line_then : (l : Letter) → List ℕ → ℕ → (Fields Place (fields_of l) → ℕ → R) → Option R
  line_then l s at read = fields_then (fields_of l) s at (λ v p. option_map (read v) (step_of (byte_at s p 10)))

  abbrev on_got : {A : Type 0} → Field A → (A → ℕ → Option R) → Option R
  on_got (got v next) after = after v next
  on_got malformed after = None

  -- one field more, told
  module _ {A B C : Type 0} (told : A → ℕ → C) (rest : ℕ → Field B) (after : A × B → ℕ → Option R) (then : C → Option R) where
    more_then : ((v : A) (p : ℕ) → then (told v p) ≡ on_got (rest p) (λ w n. after (v, w) n))
        → (f : Field A) → option_and_then then (told_as told f) ≡ on_got (on_field f λ v next. push v (rest next)) after
    more_then there (got v p) = there v p ∙ pushed v (rest p)
      where
        pushed : (v : A) (g : Field B) → on_got g (λ w n. after (v, w) n) ≡ on_got (push v g) after
        pushed v (got w n) = refl
        pushed v malformed = refl
    more_then there malformed = refl

  fields_then_lem : (ks : List Kind) (s : List ℕ) (at : ℕ) (after : Fields Place ks → ℕ → Option R)
      → fields_then ks s at after ≡ on_got (fields_at ks s at) (λ v n. after (cut_fields ks v) n)
  unfolding lines.fields_at
  fields_then_lem [] s at after = refl
  fields_then_lem (number x ∷ ks) s at after =
      more_then (λ v n. (cut v, n)) (fields_at ks s) (λ v n. after (cut_fields (number x ∷ ks) v) n) (λ (v, p). fields_then ks s p (λ w n. after (v, w) n))
      (λ v p. fields_then_lem ks s p (λ w n. after (cut v, w) n)) (spaced_number s at)
  fields_then_lem (basis x ∷ ks) s at after =
      more_then (λ v n. (cut_basis v, n)) (fields_at ks s) (λ v n. after (cut_fields (basis x ∷ ks) v) n) (λ (v, p). fields_then ks s p (λ w n. after (v, w) n))
      (λ v p. fields_then_lem ks s p (λ w n. after (cut_basis v, w) n)) (spaced_basis s at)
  fields_then_lem (label ∷ ks) s at after =
      more_then (λ v n. (place_of v, n)) (fields_at ks s) (λ v n. after (cut_fields (label ∷ ks) v) n)
      (λ (v, p). fields_then ks s p (λ w n. after (record { from = v.from; upto = v.upto }, w) n)) (λ v p. fields_then_lem ks s p (λ w n. after (v, w) n)) (spaced_label s at)

  line_then_lem : (l : Letter) (read : Fields Place (fields_of l) → ℕ → R) (s : List ℕ) (at : ℕ)
      → line_as l read (places_at s at l) ≡ line_then l s at read
  unfolding lines.places_at
  line_then_lem l read s at =
      go (fields_at (fields_of l) s at) ∙ sym (fields_then_lem (fields_of l) s at (λ v p. option_map (read v) (step_of (byte_at s p 10))))
    where
      ends : (v : Fields Place (fields_of l)) (f : Field (Unit {0}))
          → line_as l read (on_field f λ u next. got v next) ≡ option_map (read (cut_fields (fields_of l) v)) (step_of f)
      ends v (got u next) = refl
      ends v malformed = refl

      go : (f : Field (Fields Place (fields_of l)))
          → line_as l read (on_field f λ v p. on_field (byte_at s p 10) λ u next. got v next)
          ≡ on_got f (λ v p. option_map (read (cut_fields (fields_of l) v)) (step_of (byte_at s p 10)))
      go (got v p) = ends v (byte_at s p 10)
      go malformed = refl

-- Each line.

module _ (s : List ℕ) (at : ℕ) where
  pub head_chain : head_line (places_at s at H) ≡ line_then H s at head_of
  head_chain = line_then_lem H head_of s at

  pub unit_chain : unit_line (places_at s at U) ≡ line_then U s at unit_of
  unit_chain = line_then_lem U unit_of s at

  pub purchase_chain : purchase_line (places_at s at P) ≡ line_then P s at purchase_of
  purchase_chain = line_then_lem P purchase_of s at

  pub fixed_chain : fixed_line (places_at s at F) ≡ line_then F s at fixed_of
  fixed_chain = line_then_lem F fixed_of s at

  pub delivery_chain : delivery_line (places_at s at T) ≡ line_then T s at delivery_of
  delivery_chain = line_then_lem T delivery_of s at

  pub direct_chain : direct_line (places_at s at D) ≡ line_then D s at direct_of
  direct_chain = line_then_lem D direct_of s at
