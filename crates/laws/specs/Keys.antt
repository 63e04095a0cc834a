-- Keys of groups: which are the same, and their turns: each key that a delivery has stands among the turns, once, and those that go before stand before.
use Rattle.std.specs.Prelude.{Bool, true, false, ◌||◌, List, [], ◌∷◌, ◌≡◌, refl, ℕ, zero, suc, ◌+◌, ◌≤◌, ◌<◌, length}
use Rattle.std.proofs.Common.{sym, ap, ◌∙◌, arith, eq-eqb, ne_eqb, eqb-true, ltb-true, ltb-false}
use Rattle.std.proofs.lemmas.Bool.{eqb-false}
use Rattle.laws.specs.Choices.{true_not_false}
use Rattle.laws.specs.Internal.{internal}
use Rattle.laws.specs.Sums.{sum_to_part}
use Rattle.rules.specs.Hour.{key_at, same_key, member, counted, goes_before, in_turn, turns}
use Rattle.rules.specs.Words.{when◌then◌else◌, sum_to}
use Rattle.rules.specs.declared.Key.{Key}

-- the key of a number
abbrev pub key_of : ℕ → Key
key_of x = record { number = internal x }

pub key_same : (x y : Key) → same_key x y ≡ true → x ≡ y
key_same x y e = ap key_of (eqb-true x.number.0 y.number.0 e)

pub key_itself : (x : Key) → same_key x x ≡ true
key_itself x = eq-eqb x.number.0 x.number.0 refl

pub key_other : (x y : Key) → (x.number.0 ≡ y.number.0 → ⊥) → same_key x y ≡ false
key_other x y f = ne_eqb x.number.0 y.number.0 f

-- whether y is one of them
abbrev pub among : List Key → Key → Bool
among [] y = false
among (x ∷ xs) y = same_key y x || among xs y

pub among_first : (x : Key) (xs : List Key) → among (x ∷ xs) x ≡ true
among_first x xs = ap (λ (b : Bool). b || among xs x) (key_itself x)

pub among_later : (x : Key) (xs : List Key) (y : Key) → among xs y ≡ true → among (x ∷ xs) y ≡ true
among_later x xs y e = go (same_key y x)
  where
    go : (b : Bool) → (b || among xs y) ≡ true
    go true = refl
    go false = e

pub among_neither : (x : Key) (xs : List Key) (y : Key) → same_key y x ≡ false → among xs y ≡ false → among (x ∷ xs) y ≡ false
among_neither x xs y e f = rw (e, f)

-- each before all that stand after it
pub Ordered : List Key → Type 0
Ordered [] = Unit
Ordered (x ∷ xs) = ((y : Key) → among xs y ≡ true → y.number.0 < x.number.0) × Ordered xs

-- one of two
pub among_either : (P : Type 0) (x : Key) (xs : List Key) (y : Key) → among (x ∷ xs) y ≡ true → (y ≡ x → P) → (among xs y ≡ true → P) → P
among_either P x xs y e f g = go (same_key y x) refl e
  where
    go : (b : Bool) → same_key y x ≡ b → (b || among xs y) ≡ true → P
    go true h k = f (key_same y x h)
    go false h k = g k

pub first_before : (x : Key) (xs : List Key) → Ordered (x ∷ xs) → (y : Key) → among xs y ≡ true → y.number.0 < x.number.0
unfolding Ordered
first_before x xs o = o.0

-- what stands first is not among the others
pub first_once : (x : Key) (xs : List Key) → Ordered (x ∷ xs) → among xs x ≡ false
unfolding Ordered
first_once x xs o = go (among xs x) refl
  where
    go : (b : Bool) → among xs x ≡ b → b ≡ false
    go false e = refl
    go true e = absurd (omega (arith, o.0 x e))

or_twice : (a b : Bool) → (a || b) ≡ (a || (a || b))
or_twice true b = refl
or_twice false b = refl

or_swap : (a b c : Bool) → (a || (b || c)) ≡ (b || (a || c))
or_swap true true c = refl
or_swap true false c = refl
or_swap false true c = refl
or_swap false false c = refl

pub among_in_turn : (x : Key) (xs : List Key) (y : Key) → among (in_turn x xs) y ≡ (same_key y x || among xs y)
unfolding in_turn
among_in_turn x [] y = refl
among_in_turn x (z ∷ zs) y = go (same_key x z) (goes_before x z) refl (among_in_turn x zs y)
  where
    go : (a b : Bool) → same_key x z ≡ a → among (in_turn x zs) y ≡ (same_key y x || among zs y) → among (when a then z ∷ zs else when b then x ∷ z ∷ zs else z ∷ in_turn x zs) y ≡ (same_key y x || (same_key y z || among zs y))
    go true b e k = rw (key_same x z e) (or_twice (same_key y z) (among zs y))
    go false true e k = refl
    go false false e k = rw k (or_swap (same_key y z) (same_key y x) (among zs y))

ordered_in_turn : (x : Key) (xs : List Key) → Ordered xs → Ordered (in_turn x xs)
unfolding in_turn Ordered
ordered_in_turn x [] o = (λ y e. true_not_false (sym e), tt)
ordered_in_turn x (z ∷ zs) o = go (same_key x z) (goes_before x z) refl refl (ordered_in_turn x zs o.1)
  where
    go : (a b : Bool) → same_key x z ≡ a → goes_before x z ≡ b → Ordered (in_turn x zs) → Ordered (when a then z ∷ zs else when b then x ∷ z ∷ zs else z ∷ in_turn x zs)
    go true b e f k = o
    go false true e f k =
        let l = ltb-true z.number.0 x.number.0 f in
        (λ y m. among_either (y.number.0 < x.number.0) z zs y m (λ q. rw q l) (λ q. omega (arith, o.0 y q)), o)
    go false false e f k =
        let l = ltb-false z.number.0 x.number.0 f in
        let n = eqb-false x.number.0 z.number.0 e in
        (λ y m. among_either (y.number.0 < z.number.0) x zs y (sym (among_in_turn x zs y) ∙ m) (λ q. rw q (omega arith)) (λ q. o.0 y q), k)

pub turns_ordered : (ks : List Key) → Ordered (turns ks)
unfolding turns Ordered
turns_ordered [] = tt
turns_ordered (x ∷ xs) = ordered_in_turn x (turns xs) (turns_ordered xs)

-- the turns have the keys that deliveries have, and no others
pub among_turns : (ks : List Key) (y : Key) → among (turns ks) y ≡ among ks y
unfolding turns
among_turns [] y = refl
among_turns (x ∷ xs) y = among_in_turn x (turns xs) y ∙ ap (λ (b : Bool). same_key y x || b) (among_turns xs y)

-- a delivery's own key
pub among_own : (ks : List Key) (j : ℕ) → j < length ks → among ks (key_at ks j) ≡ true
among_own [] j l = absurd (omega arith)
among_own (x ∷ xs) zero l = among_first x xs
among_own (x ∷ xs) (suc j) l = among_later x xs (key_at xs j) (among_own xs j (omega arith))

-- a key that deliveries have is one's
pub record Found (ks : List Key) (y : Key) : Type 0 where
  pub at : ℕ
  pub within : at < length ks
  pub is : key_at ks at ≡ y

pub among_found : (ks : List Key) (y : Key) → among ks y ≡ true → Found ks y
among_found [] y e = true_not_false (sym e)
among_found (x ∷ xs) y e = among_either (Found (x ∷ xs) y) x xs y e (λ q. record { at = 0; within = omega arith; is = sym q })
    (λ q. let f = among_found xs y q in record { at = suc f.at; within = omega (arith, f.within); is = f.is })

-- and so has a member
pub found_counted : (ks : List Key) (y : Key) (n : ℕ) → (f : Found ks y) → f.at < n → 0 < counted ks y n
found_counted ks y n f l =
    let one : ◌≡◌ {A = ℕ} (when member ks y f.at then 1 else 0) 1 = rw (f.is, key_itself y) in
    omega (arith, one, sum_to_part (λ i. when member ks y i then 1 else 0) n f.at l)

-- keys to be gone through: in order, and each has a member among the first n deliveries
pub record Turns (ks : List Key) (n : ℕ) (xs : List Key) : Type 0 where
  pub ordered : Ordered xs
  pub served : (y : Key) → among xs y ≡ true → 0 < counted ks y n

pub turns_rest : (ks : List Key) (n : ℕ) (x : Key) (xs : List Key) → Turns ks n (x ∷ xs) → Turns ks n xs
unfolding Ordered
turns_rest ks n x xs t = record { ordered = t.ordered.1; served = λ y e. t.served y (among_later x xs y e) }

pub turns_first : (ks : List Key) (n : ℕ) (x : Key) (xs : List Key) → Turns ks n (x ∷ xs) → 0 < counted ks x n
turns_first ks n x xs t = t.served x (among_first x xs)

pub all_turns : (ks : List Key) (n : ℕ) → length ks ≤ n → Turns ks n (turns ks)
all_turns ks n l = record {
  ordered = turns_ordered ks;
  served = λ y e. let f = among_found ks y (sym (among_turns ks y) ∙ e) in found_counted ks y n f (omega (arith, f.within));
}

-- a key that has a member is one that deliveries have
pub counted_among : (ks : List Key) (y : Key) (n : ℕ) → n ≤ length ks → 0 < counted ks y n → among ks y ≡ true
unfolding sum_to
counted_among ks y zero l c = absurd (omega arith)
counted_among ks y (suc n) l c = go (member ks y n) refl c (λ d. counted_among ks y n (omega arith) d)
  where
    go : (b : Bool) → member ks y n ≡ b → 0 < counted ks y n + (when b then 1 else 0) → (0 < counted ks y n → among ks y ≡ true) → among ks y ≡ true
    go true e d k = ap (among ks) (sym (key_same (key_at ks n) y e)) ∙ among_own ks n (omega arith)
    go false e d k = k (omega arith)
