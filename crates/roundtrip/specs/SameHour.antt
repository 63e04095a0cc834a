-- The test of two hours' sameness tells just that.
use Rattle.std.specs.Prelude.{◌≡◌, ◌↔◌, true, ℕ, eqb, get_or, drop}
use Rattle.std.proofs.Math.Path.{refl, ap, sym}
use Rattle.std.proofs.Common.{◌∙◌}
use mathlib.Core.List.{List, [], ◌∷◌}
use Rattle.rules.specs.Words.{when◌then◌else◌, same_list}
use Rattle.rules.specs.Writing as writing
use Rattle.rules.specs.Writing.{plant_numbers, source_numbers, delivery_numbers, basis_numbers, direct_numbers, count_numbers, same_by, same_hour}
use Rattle.rules.specs.declared.Label.{Label}
use Rattle.rules.specs.declared.Plant.{Plant}
use Rattle.rules.specs.declared.Plant.TheVariants.{Unit as U, Purchase as P, Fixed as F}
use Rattle.rules.specs.declared.Basis.{Basis}
use Rattle.rules.specs.declared.Basis.TheVariants.{Low, Generation, Mwh}
use Rattle.rules.specs.declared.Source.{Source}
use Rattle.rules.specs.declared.Delivery.{Delivery}
use Rattle.rules.specs.declared.Direct.{Direct}
use Rattle.rules.specs.declared.Hour.{Hour}
use Rattle.laws.specs.Choices.{false_not_true, both_true}
use Rattle.laws.specs.Lists.{same_list_tells, same_list_self}

-- The entry that numbers hold.

abbrev nth : List ℕ → ℕ → ℕ
nth l i = get_or l i 0

abbrev label_from : List ℕ → Label
label_from l = record { len = nth l 0; bytes = drop 1 l }

abbrev source_from : List ℕ → Source
source_from l =
    when eqb (nth l 0) 0
    then record { plant = U (record { g = nth l 1; h = nth l 2; n = nth l 3; o = nth l 4; e = nth l 5; curve = record { k = nth l 6; a = nth l 7; b = nth l 8; c = nth l 9; r = nth l 10 } }); label = label_from (drop 11 l) }
    else when eqb (nth l 0) 1
    then record { plant = P (nth l 1) (nth l 2); label = label_from (drop 3 l) }
    else record { plant = F (nth l 1); label = label_from (drop 2 l) }

source_from_lem : (p : Plant) (l : Label) → source_from (plant_numbers p (l.len ∷ l.bytes)) ≡ record { plant = p; label = l }
source_from_lem (U u) l = refl
source_from_lem (P g rate) l = refl
source_from_lem (F g) l = refl

abbrev delivery_from : List ℕ → Delivery
delivery_from l = record { sequence = record { 0 = nth l 0 }; kind = nth l 1; block = nth l 2; mwh = nth l 3; label = label_from (drop 4 l) }

abbrev direct_from : List ℕ → Direct
direct_from l =
    when eqb (nth l 0) 0 then record { basis = Low; percent = nth l 1; source = nth l 2; delivery = nth l 3 } else
    when eqb (nth l 0) 1 then record { basis = Generation; percent = nth l 1; source = nth l 2; delivery = nth l 3 } else
    record { basis = Mwh (nth l 1); percent = nth l 2; source = nth l 3; delivery = nth l 4 }

direct_from_lem : (b : Basis) (p s d : ℕ) → direct_from (basis_numbers b (p ∷ s ∷ d ∷ [])) ≡ record { basis = b; percent = p; source = s; delivery = d }
direct_from_lem Low p s d = refl
direct_from_lem Generation p s d = refl
direct_from_lem (Mwh v) p s d = refl

-- Equal numbers, equal entries.

module _ {A : Type 0} (f : A → List ℕ) (back : List ℕ → A) (trip : (a : A) → back (f a) ≡ a) where
  same_by_tells : (xs ys : List A) → same_by f xs ys ≡ true → xs ≡ ys
  unfolding writing.same_by
  same_by_tells [] [] e = refl
  same_by_tells [] (y ∷ ys) e = false_not_true e
  same_by_tells (x ∷ xs) [] e = false_not_true e
  same_by_tells (x ∷ xs) (y ∷ ys) e =
      let b = both_true (same_list (f x) (f y)) (same_by f xs ys) e in
      let h : x ≡ y = sym (trip x) ∙ ap back (same_list_tells (f x) (f y) b.0) ∙ trip y in
      let t = same_by_tells xs ys b.1 in
      cc

same_by_self : {A : Type 0} (f : A → List ℕ) (xs : List A) → same_by f xs xs ≡ true
unfolding writing.same_by
same_by_self f [] = refl
same_by_self f (x ∷ xs) = rw (same_list_self (f x)) (same_by_self f xs)

abbrev hour_from : List ℕ → List Source → List Delivery → List Direct → Hour
hour_from l x y z = record { losses = nth l 0; nsources = nth l 1; ndeliveries = nth l 2; ndirects = nth l 3; sources = x; deliveries = y; directs = z }

same_hour_joined : (a b : Hour) → count_numbers a ≡ count_numbers b → a.sources ≡ b.sources → a.deliveries ≡ b.deliveries → a.directs ≡ b.directs → a ≡ b
same_hour_joined a b n x y z =
    let m : hour_from (count_numbers a) a.sources a.deliveries a.directs ≡ hour_from (count_numbers b) b.sources b.deliveries b.directs = cc in
    m

same_hour_tells : (a b : Hour) → same_hour a b ≡ true → a ≡ b
unfolding writing.same_hour
same_hour_tells a b e =
    let p = both_true _ (same_by direct_numbers a.directs b.directs) e in
    let q = both_true _ (same_by delivery_numbers a.deliveries b.deliveries) p.0 in
    let r = both_true (same_list (count_numbers a) (count_numbers b)) (same_by source_numbers a.sources b.sources) q.0 in
    same_hour_joined a b
    (same_list_tells (count_numbers a) (count_numbers b) r.0)
    (same_by_tells source_numbers source_from (λ x. source_from_lem x.plant x.label) a.sources b.sources r.1)
    (same_by_tells delivery_numbers delivery_from (λ x. refl) a.deliveries b.deliveries q.1)
    (same_by_tells direct_numbers direct_from (λ x. direct_from_lem x.basis x.percent x.source x.delivery) a.directs b.directs p.1)

same_hour_self : (h : Hour) → same_hour h h ≡ true
unfolding writing.same_hour
same_hour_self h = rw (same_list_self (count_numbers h), same_by_self source_numbers h.sources, same_by_self delivery_numbers h.deliveries, same_by_self direct_numbers h.directs)

pub same_hour_lem : (a b : Hour) → (same_hour a b ≡ true) ↔ (a ≡ b)
same_hour_lem a b = (same_hour_tells a b, λ e. rw e (same_hour_self b))
