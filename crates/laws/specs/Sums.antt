-- Laws of sums and lists made piece by piece (sum_to, list_to), and of parts rounded down.
use mathlib.Core.List.{List, [], ◌∷◌, ◌++◌, map, append_assoc}
use Rattle.std.specs.Prelude.{◌⊎◌, ◌≢◌, ◌≡◌, refl}
use Rattle.std.proofs.Common.{inl, inr, sym, ◌∙◌, div-mul-le_self, le-div_iff_mul-le, le_trans, mul-div_cancel, mul-le-mul_left, add-one}
use Rattle.std.proofs.Math.Path.{ap}
use Prim.Native.Nat.{ℕ, zero, suc, ◌+◌, ◌*◌, ◌/◌, ◌≤◌, ◌<◌}
use Rattle.std.proofs.Math.Decide.{dec_lt}
use Rattle.std.proofs.Math.Nat.{div-zero}
use native.Mathlib.Omega.{arith}
use Rattle.std.proofs.Math.ListN.{length, get_or, length-append, get_or-append}
use Rattle.std.proofs.Math.Seq.{get_or-append-add}
use Rattle.rules.specs.Words.{sum_to, list_to}

-- what holds of each index below n, and of n, holds of each below suc n
pub below_suc : (P : ℕ → Type 0) (n : ℕ) → ((i : ℕ) → i < n → P i) → P n → (i : ℕ) → i < suc n → P i
below_suc P n f g i l = elim (dec_lt i n) [ yes h ↦ f i h | no h ↦ (let e : i ≡ n = omega arith in rw e g) ]

-- Sums.

pub sum_to_most : (n : ℕ) (f g : ℕ → ℕ) → ((i : ℕ) → i < n → f i ≤ g i) → sum_to f n ≤ sum_to g n
unfolding sum_to
sum_to_most zero f g h = omega arith
sum_to_most (suc n) f g h = omega (arith, sum_to_most n f g (λ i l. h i (omega arith)), h n (omega arith))

pub sum_to_same : (n : ℕ) (f g : ℕ → ℕ) → ((i : ℕ) → i < n → f i ≡ g i) → sum_to f n ≡ sum_to g n
sum_to_same n f g h = omega (arith, sum_to_most n f g (λ i l. omega (arith, h i l)), sum_to_most n g f (λ i l. omega (arith, h i l)))

pub sum_to_zero : (n : ℕ) (f : ℕ → ℕ) → ((i : ℕ) → i < n → f i ≡ 0) → sum_to f n ≡ 0
unfolding sum_to
sum_to_zero zero f h = refl
sum_to_zero (suc n) f h = omega (arith, sum_to_zero n f (λ i l. h i (omega arith)), h n (omega arith))

pub sum_to_add : (n : ℕ) (f g w : ℕ → ℕ) → ((i : ℕ) → i < n → f i + g i ≡ w i) → sum_to f n + sum_to g n ≡ sum_to w n
unfolding sum_to
sum_to_add zero f g w h = refl
sum_to_add (suc n) f g w h = omega (arith, sum_to_add n f g w (λ i l. h i (omega arith)), h n (omega arith))

pub sum_to_grows : (f : ℕ → ℕ) (n : ℕ) → sum_to f n ≤ sum_to f (suc n)
unfolding sum_to
sum_to_grows f n = omega arith

-- the sum to n is at least that to any m up to n
pub sum_to_longer : (f : ℕ → ℕ) (m n : ℕ) → m ≤ n → sum_to f m ≤ sum_to f n
unfolding sum_to
sum_to_longer f m zero h = let e : m ≡ 0 = omega arith in rw e (omega arith)
sum_to_longer f m (suc n) h = elim (dec_lt n m) [
  | yes l ↦ (let e : m ≡ suc n = omega arith in rw e (omega arith))
  | no l ↦ omega (arith, sum_to_longer f m n (omega arith))
]

-- no part is more than the sum
pub sum_to_part : (f : ℕ → ℕ) (n i : ℕ) → i < n → f i ≤ sum_to f n
unfolding sum_to
sum_to_part f n i h = omega (arith, sum_to_longer f (suc i) n h)

-- n parts of at most m each
pub sum_to_bound : (f : ℕ → ℕ) (m n : ℕ) → ((i : ℕ) → i < n → f i ≤ m) → sum_to f n ≤ n * m
unfolding sum_to
sum_to_bound f m zero h = omega arith
sum_to_bound f m (suc n) h = omega (arith, sum_to_bound f m n (λ i l. h i (omega arith)), h n (omega arith))

-- nowhere greater, and equal in sum: equal everywhere
pub sum_to_exact : (n : ℕ) (f g : ℕ → ℕ) → ((i : ℕ) → i < n → f i ≤ g i) → sum_to f n ≡ sum_to g n → (i : ℕ) → i < n → f i ≡ g i
unfolding sum_to
sum_to_exact zero f g h e i l = omega arith
sum_to_exact (suc n) f g h e i l =
    let h' : (j : ℕ) → j < n → f j ≤ g j = λ j m. h j (omega arith) in
    let a = sum_to_most n f g h' in
    let b = h n (omega arith) in
    below_suc (λ j. f j ≡ g j) n (sum_to_exact n f g h' (omega arith)) (omega arith) i l

-- an index where f is below g, or none
pub less_somewhere : (n : ℕ) (f g : ℕ → ℕ) → ((i : ℕ) × (i < n) × (f i < g i)) ⊎ ((i : ℕ) → i < n → g i ≤ f i)
less_somewhere zero f g = inr (λ i l. omega arith)
less_somewhere (suc n) f g = elim (less_somewhere n f g) [
  | inl x ↦ inl (x.0, omega arith, x.2)
  | inr h ↦ elim (dec_lt (f n) (g n)) [ yes l ↦ inl (n, omega arith, l) | no l ↦ inr (below_suc (λ i. g i ≤ f i) n h (omega arith)) ]
]

-- two functions that differ at one place
pub sum_to_but : (n : ℕ) (f g : ℕ → ℕ) (i : ℕ) → i < n → ((j : ℕ) → j < n → j ≢ i → g j ≡ f j) → sum_to g n + f i ≡ sum_to f n + g i
unfolding sum_to
sum_to_but zero f g i l h = omega arith
sum_to_but (suc n) f g i l h = elim (dec_lt i n) [
  | yes m ↦ omega (arith, sum_to_but n f g i m (λ j k. h j (omega arith)), h n (omega arith) (omega arith))
  | no m ↦ (
      let e : i ≡ n = omega arith in
      omega (arith, ap f e, ap g e, sum_to_same n g f (λ j k. h j (omega arith) (omega arith))))
]

-- the loop that adds: its start, its step in the code's words, its end
pub sum_to_none : (f : ℕ → ℕ) → 0 ≡ sum_to f 0
unfolding sum_to
sum_to_none f = refl

pub sum_to_more : (f : ℕ → ℕ) (i s v : ℕ) → s ≡ sum_to f i → v ≡ f i → s + v ≡ sum_to f (i + 1)
unfolding sum_to
sum_to_more f i s v e h = rw add-one (omega arith)

pub sum_to_end : (f : ℕ → ℕ) (n i s : ℕ) → i ≤ n → n ≤ i → s ≡ sum_to f i → s ≡ sum_to f n
sum_to_end f n i s a b e = let h : i ≡ n = omega arith in rw h at e

-- Lists of pieces of one length.

module _ {A : Type 0} (f : ℕ → List A) (w : ℕ) (e : (k : ℕ) → length (f k) ≡ w) where
  pub list_to_length : (n : ℕ) → length (list_to f n) ≡ n * w
  unfolding list_to
  list_to_length zero = omega arith
  list_to_length (suc n) = length-append (list_to f n) (f n) ∙ omega (arith, list_to_length n, e n)

  -- what stands at place r of piece k
  pub list_to_read : (n k r : ℕ) (d : A) (ys : List A) → k < n → r < w → get_or (list_to f n ++ ys) (k * w + r) d ≡ get_or (f k) r d
  unfolding list_to
  list_to_read zero k r d ys h l = absurd (omega arith)
  list_to_read (suc n) k r d ys h l = ap (λ (x : List A). get_or x (k * w + r) d) (append_assoc (list_to f n) (f n) ys) ∙ elim (dec_lt k n) [
    | yes m ↦ list_to_read n k r d (f n ++ ys) m l
    | no m ↦ (
        let q : k ≡ n = omega arith in
        let z : k * w + r ≡ length (list_to f n) + r = rw q (omega (arith, list_to_length n)) in
        ap (λ (x : ℕ). get_or (list_to f n ++ (f n ++ ys)) x d) z ∙ get_or-append-add (list_to f n) (f n ++ ys) r d ∙
        get_or-append (f n) ys d r (omega (arith, e n)) ∙ ap (λ (x : ℕ). get_or (f x) r d) (sym q))
  ]

-- a list of results, read where there is one
pub get_d_map_there : {A B : Type 0} (f : A → B) (l : List A) (i : ℕ) (d : A) (e : B) → i < length l → get_or (map f l) i e ≡ f (get_or l i d)
get_d_map_there f [] i d e h = absurd (omega arith)
get_d_map_there f (x ∷ xs) zero d e h = refl
get_d_map_there f (x ∷ xs) (suc i) d e h = get_d_map_there f xs i d e (omega arith)

-- Parts rounded down.

pub div_grows : (x z y : ℕ) → x ≤ z → x / y ≤ z / y
div_grows x z zero h = rw (div-zero x, div-zero z) (omega arith)
div_grows x z (suc y) h =
    let k : 0 < suc y = omega arith in
    (le-div_iff_mul-le {k = suc y} {x = x / suc y} {y = z} k).1 (le_trans (div-mul-le_self x (suc y)) h)

-- a part x·m/y of x, with m at most y, is at most x
pub part_most : (x m y : ℕ) → m ≤ y → x * m / y ≤ x
part_most x m zero h = rw (div-zero (x * m)) (omega arith)
part_most x m (suc y) h =
    le_trans (div_grows (x * m) (x * suc y) (suc y) (mul-le-mul_left x h)) (omega (arith, mul-div_cancel x {n = suc y} (omega arith)))
