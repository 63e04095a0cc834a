-- Laws of a line's answer, for whoever takes it.
--     found           an answer that says a line was read has its fields
--     ranged_cut      cutting changes no range test
--     cut_ranged      where the numbers are in their ranges, the cut ones are the numbers
--     line_stands     where a line is read, each label is one, and the line ends further on, inside the deck
use Rattle.std.specs.Prelude.{◌≡◌, refl, Bool, true, false, not, ◌&&◌, ℕ, suc, ◌+◌, ◌-◌, ◌*◌, ◌<◌, ◌≤◌, leb, eqb, length, drop}
use Rattle.std.proofs.Math.Path.{ap}
use Rattle.std.proofs.Common.{sym, ◌∙◌, arith, length-drop, leb-true, leb-false}
use mathlib.Core.List.{List, [], ◌∷◌}
use Rattle.std.proofs.Math.Option.{Option, none, some}
use Rattle.std.proofs.lemmas.Bool.{lt-leb}
use Rattle.rules.specs.Words.{when◌then◌else◌}
use Rattle.rules.specs.Ranges.{Range, inside}
use Rattle.rules.specs.Fields as fields
use Rattle.rules.specs.Fields.{Field, got, malformed, on_field, byte, byte_at, is_digit, run, number_at, label_end, Place, chars_at, is_label, spaced_number, label_from, spaced_label, basis_from, basis_at, spaced_basis}
use Rattle.rules.specs.Lines as lines
use Rattle.rules.specs.Lines.{Kind, number, basis, label, Letter, H, U, P, F, T, D, E, Fields, fields_of, push, fields_at, seen, basis_inside, ranged, places_at}
use Rattle.rules.specs.declared.Basis.{Basis}
use Rattle.rules.specs.declared.Basis.TheVariants.{Low, Generation, Mwh}
use Rattle.laws.specs.Choices.{both_true, malformed_not_got, got_failed, field_passed}
use Rattle.roundtrip.specs.Labels.{label_stood, label_within, label_from_lem}
use Rattle.roundtrip.specs.Fields.{byte_stood, inside_from, fields_stood}
use Rattle.read_fields.specs.Answers.{cut, cut_basis}
use Rattle.read_lines.specs.Answers.{cut_fields}

-- An answer has its fields.

pub record Found {A R : Type 0} (answer : Field A → R) (f : Field A) (r : R) : Type 0 where
  pub fields : A
  pub next : ℕ
  pub is : f ≡ got fields next
  pub says : answer (got fields next) ≡ r

module _ {A R : Type 0} (answer : Field A → R) where
  pub found : (f : Field A) (r : R) → (answer malformed ≡ r → ⊥) → answer f ≡ r → Found answer f r
  found (got v next) r h e = record { fields = v; next = next; is = refl; says = e }
  found malformed r h e = absurd (h e)

  pub not_found : (f : Field A) (r : R) → ((v : A) (next : ℕ) → answer (got v next) ≡ r → ⊥) → answer f ≡ r → f ≡ malformed
  not_found (got v next) r h e = absurd (h v next e)
  not_found malformed r h e = refl

-- Numbers are cut above every range.

abbrev BelowCut : List Kind → Type 0
BelowCut [] = Unit {0}
BelowCut (number x ∷ ks) = (x.most < 1_000_000) × BelowCut ks
BelowCut (basis x ∷ ks) = (x.most < 1_000_000) × BelowCut ks
BelowCut (label ∷ ks) = BelowCut ks

below_cut : (l : Letter) → BelowCut (fields_of l)
below_cut H = search arith
below_cut U = search arith
below_cut P = search arith
below_cut F = search arith
below_cut T = search arith
below_cut D = search arith
below_cut E = tt

module _ (x : Range) (h : x.most < 1_000_000) where
  pub inside_cut : (v : ℕ) → inside x (cut v) ≡ inside x v
  inside_cut v = go (leb v x.most) refl
    where
      none : (p : Bool) → (p && false) ≡ false
      none true = refl
      none false = refl

      go : (p : Bool) → leb v x.most ≡ p → inside x (cut v) ≡ (leb x.least v && p)
      go true e = let k : cut v ≡ v = omega (arith, leb-true v x.most e) in rw (k, e)
      go false e =
          let k : leb (cut v) x.most ≡ false = lt-leb (cut v) x.most (omega (arith, leb-false v x.most e)) in
          rw k (none (leb x.least (cut v)) ∙ sym (none (leb x.least v)))

  pub basis_inside_cut : (v : Basis) → basis_inside x (cut_basis v) ≡ basis_inside x v
  basis_inside_cut Low = refl
  basis_inside_cut Generation = refl
  basis_inside_cut (Mwh v) = inside_cut v

  pub cut_inside : (v : ℕ) → inside x v ≡ true → cut v ≡ v
  cut_inside v e = omega (arith, (inside_from x v e).most)

  pub cut_basis_inside : (v : Basis) → basis_inside x v ≡ true → cut_basis v ≡ v
  cut_basis_inside Low e = refl
  cut_basis_inside Generation e = refl
  cut_basis_inside (Mwh v) e = ap Mwh (cut_inside v e)

fields_ranged_cut : (ks : List Kind) (s : List ℕ) (v : Fields Place ks) → BelowCut ks → ranged ks (seen ks s (cut_fields ks v)) ≡ ranged ks (seen ks s v)
unfolding lines.seen lines.ranged
fields_ranged_cut [] s v h = refl
fields_ranged_cut (number x ∷ ks) s v h = rw (inside_cut x h.0 v.0, fields_ranged_cut ks s v.1 h.1)
fields_ranged_cut (basis x ∷ ks) s v h = rw (basis_inside_cut x h.0 v.0, fields_ranged_cut ks s v.1 h.1)
fields_ranged_cut (label ∷ ks) s v h = fields_ranged_cut ks s v.1 h

pub ranged_cut : (l : Letter) (s : List ℕ) (v : Fields Place (fields_of l)) → ranged (fields_of l) (seen (fields_of l) s (cut_fields (fields_of l) v)) ≡ ranged (fields_of l) (seen (fields_of l) s v)
ranged_cut l s v = fields_ranged_cut (fields_of l) s v (below_cut l)

fields_cut_ranged : (ks : List Kind) (s : List ℕ) (v : Fields Place ks) → BelowCut ks → ranged ks (seen ks s v) ≡ true → cut_fields ks v ≡ v
unfolding lines.seen lines.ranged
fields_cut_ranged [] s v h e = refl
fields_cut_ranged (number x ∷ ks) s v h e =
    let p = both_true (inside x v.0) (ranged ks (seen ks s v.1)) e in
    rw (cut_inside x h.0 v.0 p.0, fields_cut_ranged ks s v.1 h.1 p.1)
fields_cut_ranged (basis x ∷ ks) s v h e =
    let p = both_true (basis_inside x v.0) (ranged ks (seen ks s v.1)) e in
    rw (cut_basis_inside x h.0 v.0 p.0, fields_cut_ranged ks s v.1 h.1 p.1)
fields_cut_ranged (label ∷ ks) s v h e = rw (fields_cut_ranged ks s v.1 h e)

pub cut_ranged : (l : Letter) (s : List ℕ) (v : Fields Place (fields_of l)) → ranged (fields_of l) (seen (fields_of l) s v) ≡ true → cut_fields (fields_of l) v ≡ v
cut_ranged l s v e = fields_cut_ranged (fields_of l) s v (below_cut l) e

-- A line that is read stands inside the deck.

pub record LabelStands (s : List ℕ) (p : Place) : Type 0 where
  pub order : p.from ≤ p.upto
  pub within : p.upto ≤ length s
  pub label : is_label (chars_at s p) ≡ true
  pub few : length (chars_at s p) ≤ 16

abbrev pub LabelsStand : List ℕ → (ks : List Kind) → Fields Place ks → Type 0
LabelsStand s [] v = Unit {0}
LabelsStand s (number x ∷ ks) v = LabelsStand s ks v.1
LabelsStand s (basis x ∷ ks) v = LabelsStand s ks v.1
LabelsStand s (label ∷ ks) v = LabelStands s v.0 × LabelsStand s ks v.1

run_after : (l : List ℕ) (v i w n : ℕ) → run v i l ≡ got w n → i ≤ n
unfolding fields.run
run_after [] v i w n e = let k : i ≡ n = cc in omega arith
run_after (b ∷ t) v i w n e = go (is_digit b) e (run_after t (v * 10 + (b - 48)) (suc i) w n)
  where
    go : (p : Bool) → (when p then run (v * 10 + (b - 48)) (suc i) t else got v i) ≡ got w n → (run (v * 10 + (b - 48)) (suc i) t ≡ got w n → suc i ≤ n) → i ≤ n
    go true e ih = omega (arith, ih e)
    go false e ih = let k : i ≡ n = cc in omega arith

number_after : (s : List ℕ) (at v n : ℕ) → number_at s at ≡ got v n → at ≤ n
unfolding fields.number_at
number_after s at v n e =
    let p = got_failed (not (is_digit (byte s at))) _ v n e in
    let q = got_failed (eqb (byte s at) 48 && is_digit (byte s (at + 1))) _ v n p.1 in
    run_after (drop at s) 0 at v n q.1

basis_after : (s : List ℕ) (at : ℕ) (v : Basis) (n : ℕ) → basis_at s at ≡ got v n → at ≤ n
unfolding fields.basis_at
basis_after s at v n e = go (eqb (byte s at) 76) (eqb (byte s at) 71) (number_at s at) refl e
  where
    go : (p q : Bool) (f : Field ℕ) → number_at s at ≡ f → (when p then got Low (at + 1) else when q then got Generation (at + 1) else basis_from f) ≡ got v n → at ≤ n
    go true q f fe e = let k : at + 1 ≡ n = cc in omega arith
    go false true f fe e = let k : at + 1 ≡ n = cc in omega arith
    go false false (got w m) fe e = let k : m ≡ n = cc in omega (arith, number_after s at w m fe)
    go false false malformed fe e = malformed_not_got v n e

-- a field after its space
spaced_after : {A : Type 0} (field : ℕ → Field A) (s : List ℕ) (at : ℕ) (v : A) (n : ℕ) → ((d : ℕ) → field d ≡ got v n → d ≤ n)
    → on_field (byte_at s at 32) (λ u p. field p) ≡ got v n → at ≤ n
spaced_after field s at v n after e =
    let p = field_passed (byte_at s at 32) (λ u p. field p) v n e in
    omega (arith, byte_stood s at 32 p.place (omega arith) p.first, after p.place p.second)

label_is : (s : List ℕ) (at : ℕ) (p : Place) (n : ℕ) → spaced_label s at ≡ got p n → is_label (chars_at s p) ≡ true
unfolding lines.labelled
label_is s at p n e = (both_true (is_label (chars_at s p)) true (fields_stood (label ∷ []) (chars_at s p, tt) s at n tt (rw e)).labels).0

label_bounds : (s : List ℕ) (d : ℕ) (p : Place) (n : ℕ) → d ≤ length s → label_from d (label_end (drop d s)) ≡ got p n → (p.from ≤ p.upto) × (p.upto ≤ length s) × (d ≤ n)
label_bounds s d p n h e = go (label_end (drop d s)) refl e
  where
    go : (x : Option ℕ) → label_end (drop d s) ≡ x → label_from d x ≡ got p n → (p.from ≤ p.upto) × (p.upto ≤ length s) × (d ≤ n)
    go none xe e = malformed_not_got p n e
    go (some z) xe e =
        let q = (label_stood (drop d s) z xe).place in
        let w = label_within (drop d s) z xe in
        let l = length-drop d s in
        let from : d + 1 ≡ p.from = cc in
        let upto : d + z ≡ p.upto = cc in
        let next : d + z + 1 ≡ n = cc in
        (omega arith, omega arith, omega arith)

label_stands : (s : List ℕ) (at : ℕ) (p : Place) (n : ℕ) → spaced_label s at ≡ got p n → LabelStands s p × (at ≤ n)
unfolding fields.spaced_label
label_stands s at p n e =
    let q = field_passed (byte_at s at 32) (λ u d. label_from d (label_end (drop d s))) p n e in
    let b = byte_stood s at 32 q.place (omega arith) q.first in
    let k = label_bounds s q.place p n b.2 q.second in
    let is = label_is s at p n e in
    (record { order = k.0; within = k.1; label = is; few = leb-true (length (chars_at s p)) 16 (label_from_lem (chars_at s p) is).few }, omega (arith, k, b))

module _ (s : List ℕ) where
  -- one field more
  module _ {A B : Type 0} (f : Field A) (rest : ℕ → Field B) where
    record More (v : A × B) (n : ℕ) : Type 0 where
      place : ℕ
      first : f ≡ got v.0 place
      second : rest place ≡ got v.1 n

    more_got : (v : A × B) (n : ℕ) → on_field f (λ v next. push v (rest next)) ≡ got v n → More v n
    more_got v n e =
        let p = field_passed f (λ v next. push v (rest next)) v n e in
        go p.mid p.place p.first (rest p.place) refl p.second
      where
        go : (a : A) (m : ℕ) → f ≡ got a m → (g : Field B) → rest m ≡ g → push a g ≡ got v n → More v n
        go a m fe (got b k) ge e =
            let x : a ≡ v.0 = cc in
            let y : b ≡ v.1 = cc in
            let z : k ≡ n = cc in
            record { place = m; first = fe ∙ ap (λ (a : A). got a m) x; second = ge ∙ rw (y, z) }
        go a m fe malformed ge e = malformed_not_got v n e

  fields_stand : (ks : List Kind) (at : ℕ) (v : Fields Place ks) (n : ℕ) → fields_at ks s at ≡ got v n → LabelsStand s ks v × (at ≤ n)
  unfolding lines.fields_at fields.spaced_number fields.spaced_basis
  fields_stand [] at v n e = (tt, let k : at ≡ n = cc in omega arith)
  fields_stand (number x ∷ ks) at v n e =
      let m = more_got (spaced_number s at) (fields_at ks s) v n e in
      let ih = fields_stand ks m.place v.1 n m.second in
      (ih.0, omega (arith, ih.1, spaced_after (number_at s) s at v.0 m.place (λ d. number_after s d v.0 m.place) m.first))
  fields_stand (basis x ∷ ks) at v n e =
      let m = more_got (spaced_basis s at) (fields_at ks s) v n e in
      let ih = fields_stand ks m.place v.1 n m.second in
      (ih.0, omega (arith, ih.1, spaced_after (basis_at s) s at v.0 m.place (λ d. basis_after s d v.0 m.place) m.first))
  fields_stand (label ∷ ks) at v n e =
      let m = more_got (spaced_label s at) (fields_at ks s) v n e in
      let ih = fields_stand ks m.place v.1 n m.second in
      let l = label_stands s at v.0 m.place m.first in
      ((l.0, ih.0), omega (arith, ih.1, l.1))

  pub record LineStands (l : Letter) (at : ℕ) (v : Fields Place (fields_of l)) (next : ℕ) : Type 0 where
    pub labels : LabelsStand s (fields_of l) v
    pub after : at < next
    pub within : next ≤ length s

  pub line_stands : (l : Letter) (at : ℕ) (v : Fields Place (fields_of l)) (next : ℕ) → places_at s at l ≡ got v next → LineStands l at v next
  unfolding lines.places_at
  line_stands l at v next e =
      let p = field_passed (fields_at (fields_of l) s at) (λ v p. on_field (byte_at s p 10) λ u next. got v next) v next e in
      let q = field_passed (byte_at s p.place 10) (λ u next. got p.mid next) v next p.second in
      let same = q.second in
      let is : p.mid ≡ v = cc in
      let n : q.place ≡ next = cc in
      let b = byte_stood s p.place 10 q.place (omega arith) q.first in
      let f = fields_stand (fields_of l) at v p.place (p.first ∙ ap (λ (v : Fields Place (fields_of l)). got v p.place) is) in
      record { labels = f.0; after = omega (arith, f.1, b); within = omega (arith, b) }
