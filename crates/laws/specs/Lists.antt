-- Laws of lists: what stands at a place, sameness, an element set, and lists, tests and finds up to a number.
use Rattle.std.specs.Prelude.{◌≡◌, Bool, true, false, List, [], ◌∷◌, ◌++◌, eqb, length, get_or, set, drop}
use Rattle.std.proofs.Math.Path.{refl}
use Rattle.std.proofs.Common.{ap, sym, ◌∙◌, add-zero, arith, drop-drop, get_or-drop, get_or-set_same, get_or-set_other, eqb-true, eq-eqb}
use Rattle.std.proofs.Math.Option.{Option, none, some}
use Prim.Native.Nat.{ℕ, zero, suc, ◌+◌, ◌<◌}
use Rattle.std.proofs.Math.Numerals.{add-one}
use Rattle.std.proofs.Math.Seq.{drop-append_seam}
use Rattle.rules.specs.Words.{when◌then◌else◌, sum_to, list_to, ◌otherwise◌, find_to, same_list}
use Rattle.laws.specs.Sums.{below_suc, sum_to_same, sum_to_more}
use Rattle.laws.specs.Choices.{false_not_true, both_true, none_not_some}

-- What stands at a place.

module _ {A : Type 0} where
  -- after w, what stands after w
  pub drop_past : (s w rest : List A) (at : ℕ) → drop at s ≡ w ++ rest → drop (at + length w) s ≡ rest
  drop_past s w rest at e = sym (drop-drop (length w) at s) ∙ ap (drop (length w)) e ∙ drop-append_seam w rest

  pub drop_past_one : (s rest : List A) (at : ℕ) (x : A) → drop at s ≡ x ∷ rest → drop (at + 1) s ≡ rest
  drop_past_one s rest at x e = drop_past s (x ∷ []) rest at e

  -- the first element there
  pub get_d_first : (s l : List A) (at : ℕ) (d : A) → drop at s ≡ l → get_or s at d ≡ get_or l 0 d
  get_d_first s l at d e = ap (λ (k : ℕ). get_or s k d) (sym (add-zero at)) ∙ sym (get_or-drop at s 0 d) ∙ ap (λ (l : List A). get_or l 0 d) e

-- Sameness.

pub same_list_tells : (xs ys : List ℕ) → same_list xs ys ≡ true → xs ≡ ys
unfolding same_list
same_list_tells [] [] e = refl
same_list_tells [] (y ∷ ys) e = false_not_true e
same_list_tells (x ∷ xs) [] e = false_not_true e
same_list_tells (x ∷ xs) (y ∷ ys) e =
    let b = both_true (eqb x y) (same_list xs ys) e in
    let h = eqb-true x y b.0 in
    let t = same_list_tells xs ys b.1 in
    cc

pub same_list_self : (xs : List ℕ) → same_list xs xs ≡ true
unfolding same_list
same_list_self [] = refl
same_list_self (x ∷ xs) = rw (eq-eqb x x refl) (same_list_self xs)

-- Lists made up to a number.

module _ {A : Type 0} where
  pub list_to_same : (f g : ℕ → List A) (n : ℕ) → ((i : ℕ) → i < n → f i ≡ g i) → list_to f n ≡ list_to g n
  unfolding list_to
  list_to_same f g zero h = refl
  list_to_same f g (suc n) h = rw (list_to_same f g n (λ i l. h i (omega arith)), h n (omega arith))

  pub list_to_more : (f : ℕ → List A) (n : ℕ) → list_to f (n + 1) ≡ list_to f n ++ f n
  unfolding list_to
  list_to_more f n = rw add-one

  -- of a list with its element n set
  pub list_to_set : {B : Type 0} (f : B → List A) (xs : List B) (d x : B) (n : ℕ) → n < length xs
      → list_to (λ i. f (get_or (set xs n x) i d)) (n + 1) ≡ list_to (λ i. f (get_or xs i d)) n ++ f x
  list_to_set f xs d x n h =
      list_to_more (λ i. f (get_or (set xs n x) i d)) n
      ∙ ap (λ l. l ++ f (get_or (set xs n x) n d)) (list_to_same (λ i. f (get_or (set xs n x) i d)) (λ i. f (get_or xs i d)) n (λ i l. ap f (get_or-set_other xs n i x d (λ e. omega arith))))
      ∙ ap (λ y. list_to (λ i. f (get_or xs i d)) n ++ f y) (get_or-set_same xs n x d h)

pub sum_to_set : {B : Type 0} (f : B → ℕ) (xs : List B) (d x : B) (n : ℕ) → n < length xs
    → sum_to (λ i. f (get_or (set xs n x) i d)) (n + 1) ≡ sum_to (λ i. f (get_or xs i d)) n + f x
sum_to_set f xs d x n h =
    sym (sum_to_more (λ i. f (get_or (set xs n x) i d)) n (sum_to (λ i. f (get_or xs i d)) n) (f x)
    (sum_to_same n (λ i. f (get_or xs i d)) (λ i. f (get_or (set xs n x) i d)) (λ i l. ap f (sym (get_or-set_other xs n i x d (λ e. omega arith)))))
    (ap f (sym (get_or-set_same xs n x d h))))

-- Tests and finds up to a number.

pub find_to_passes : (p : ℕ → Bool) (n i : ℕ) → find_to p n ≡ some i → (i < n) × (p i ≡ true)
unfolding find_to
find_to_passes p zero i e = none_not_some i e
find_to_passes p (suc n) i e = go (find_to p n) refl (p n) refl e (find_to_passes p n i)
  where
    go : (x : Option ℕ) → find_to p n ≡ x → (b : Bool) → p n ≡ b → (x otherwise (when b then some n else none)) ≡ some i
        → (find_to p n ≡ some i → (i < n) × (p i ≡ true)) → (i < suc n) × (p i ≡ true)
    go (some j) xe b be e ih = let k = ih (xe ∙ e) in (omega arith, k.1)
    go none xe true be e ih = let k : n ≡ i = cc in (omega arith, ap p (sym k) ∙ be)
    go none xe false be e ih = none_not_some i e

pub find_to_none : (p : ℕ → Bool) (n : ℕ) → find_to p n ≡ none → (i : ℕ) → i < n → p i ≡ false
unfolding find_to
find_to_none p zero e i lt = absurd (omega arith)
find_to_none p (suc n) e i lt = go (find_to p n) refl (p n) refl e (find_to_none p n) i lt
  where
    go : (x : Option ℕ) → find_to p n ≡ x → (b : Bool) → p n ≡ b → (x otherwise (when b then some n else none)) ≡ none
        → (find_to p n ≡ none → (i : ℕ) → i < n → p i ≡ false) → (i : ℕ) → i < suc n → p i ≡ false
    go (some j) xe b be e ih = none_not_some j (sym e)
    go none xe true be e ih = none_not_some n (sym e)
    go none xe false be e ih = below_suc (λ i. p i ≡ false) n (ih xe) be
