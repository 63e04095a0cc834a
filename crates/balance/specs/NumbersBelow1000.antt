-- Where every sequence is at most 99, every internal number is below 1,000.
use Rattle.std.specs.Prelude.{Bool, true, false, not, ◌&&◌, List, length, get_or}
use Rattle.std.proofs.Math.Option.{Option, none, some}
use Rattle.std.proofs.Common.{ap}
use Prim.Native.Nat.{ℕ, zero, suc, ◌≤◌, ◌<◌, min, max}
use Rattle.std.proofs.Math.Decide.{dec_lt}
use native.Mathlib.Omega.{arith}
use Rattle.std.proofs.Math.ListN.{get_or-eq_default}
use Rattle.balance.specs.KeysOfAnHour.{keys_at, keys_length}
use Rattle.rules.specs.Hour.{or_none, keys, no_key, key_at}
use Rattle.rules.specs.Sequences.{no_delivery, to_place, times_ten, joined, match, matches, before, after, rule_a, rule_b, rule_c, rule_d, rule_e, placed, numbered}
use Rattle.rules.specs.Words.{when◌then◌else◌, ◌otherwise◌}
use Rattle.rules.specs.declared.Delivery.{Delivery}
use Rattle.rules.specs.declared.Hour.{Hour}
use Rattle.rules.specs.declared.InternalSequence.{InternalSequence}
use Rattle.rules.specs.declared.Key.{Key}

-- an internal number, where there is one, is at most x
abbrev Most : ℕ → Option InternalSequence → Type 0
Most x none = Unit
Most x (some y) = y.0 ≤ x

joined_most : (f : ℕ → ℕ → ℕ) → ((a b : ℕ) → a ≤ 990 → b ≤ 990 → f a b ≤ 990) → (x y : Option InternalSequence) → Most 990 x → Most 990 y → Most 990 (joined f x y)
joined_most f h none y a b = b
joined_most f h (some x) none a b = a
joined_most f h (some x) (some y) a b = h _ _ a b

before_most : (o : Option InternalSequence) → Most 990 o → Most 991 (before o)
before_most none h = tt
before_most (some x) h = omega arith

after_most : (o : Option InternalSequence) → Most 990 o → Most 991 (after o)
after_most none h = tt
after_most (some x) h = omega arith

otherwise_most : (x y : Option InternalSequence) → Most 991 x → Most 991 y → Most 991 (x otherwise y)
otherwise_most none y a b = b
otherwise_most (some x) y a b = a

module _ (ts : List Delivery) (small : (j : ℕ) → (get_or ts j no_delivery).sequence.0 ≤ 99) where
  match_most : (fits : Delivery → Bool) (j : ℕ) → Most 990 (match fits (get_or ts j no_delivery))
  match_most fits j = go (not (to_place (get_or ts j no_delivery)) && fits (get_or ts j no_delivery))
    where
      go : (x : Bool) → Most 990 (when x then some (times_ten (get_or ts j no_delivery).sequence) else none)
      go true = omega (arith, small j)
      go false = tt

  matches_most : (f : ℕ → ℕ → ℕ) → ((a b : ℕ) → a ≤ 990 → b ≤ 990 → f a b ≤ 990) → (fits : Delivery → Bool) (n : ℕ) → Most 990 (matches f fits ts n)
  unfolding matches
  matches_most f h fits zero = tt
  matches_most f h fits (suc n) = joined_most f h (matches f fits ts n) _ (matches_most f h fits n) (match_most fits n)

  least_most : (fits : Delivery → Bool) (n : ℕ) → Most 991 (before (matches min fits ts n))
  least_most fits n = before_most (matches min fits ts n) (matches_most min (λ a b p q. omega arith) fits n)

  greatest_most : (fits : Delivery → Bool) (n : ℕ) → Most 991 (after (matches max fits ts n))
  greatest_most fits n = after_most (matches max fits ts n) (matches_most max (λ a b p q. omega arith) fits n)

  module _ (n : ℕ) (t : Delivery) where
    rule_a_most : Most 991 (rule_a ts n t)
    unfolding rule_a
    rule_a_most = least_most _ n

    rule_b_most : Most 991 (rule_b ts n t)
    unfolding rule_b
    rule_b_most = least_most _ n

    rule_c_most : Most 991 (rule_c ts n t)
    unfolding rule_c
    rule_c_most = greatest_most _ n

    rule_d_most : Most 991 (rule_d ts n t)
    unfolding rule_d
    rule_d_most = least_most _ n

    rule_e_most : Most 991 (rule_e ts n)
    unfolding rule_e
    rule_e_most = least_most _ n

    placed_most : Most 991 (placed ts n t)
    unfolding placed
    placed_most =
        otherwise_most (rule_a ts n t) (rule_b ts n t otherwise rule_c ts n t otherwise rule_d ts n t otherwise rule_e ts n) rule_a_most
        (otherwise_most (rule_b ts n t) (rule_c ts n t otherwise rule_d ts n t otherwise rule_e ts n) rule_b_most
        (otherwise_most (rule_c ts n t) (rule_d ts n t otherwise rule_e ts n) rule_c_most
        (otherwise_most (rule_d ts n t) (rule_e ts n) rule_d_most rule_e_most)))

  pub numbered_below : (n j : ℕ) → (or_none (numbered ts n (get_or ts j no_delivery))).0 < 1000
  unfolding numbered
  numbered_below n j = go (to_place (get_or ts j no_delivery))
    where
      any : (o : Option InternalSequence) → Most 991 o → (or_none o).0 < 1000
      any none h = omega arith
      any (some x) h = omega arith

      go : (y : Bool) → (or_none (when y then placed ts n (get_or ts j no_delivery) else some (times_ten (get_or ts j no_delivery).sequence))).0 < 1000
      go true = any (placed ts n (get_or ts j no_delivery)) (placed_most n (get_or ts j no_delivery))
      go false = omega (arith, small j)

-- every number of an hour's deliveries
pub numbers_below : (h : Hour) → ((j : ℕ) → (get_or h.deliveries j no_delivery).sequence.0 ≤ 99) → (j : ℕ) → (key_at (keys h) j).number.0 < 1000
numbers_below h small j = elim (dec_lt j (min h.ndeliveries (length h.deliveries))) [
  | yes l ↦ omega (arith, ap (λ (x : Key). x.number.0) (keys_at h j (omega arith) (omega arith)), numbered_below h.deliveries small h.ndeliveries j)
  | no l ↦ omega (arith, ap (λ (x : Key). x.number.0) (get_or-eq_default (keys h) no_key {n = j} (omega (arith, keys_length h))))
]
