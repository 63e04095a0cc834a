-- The best matches of the rules a) to e), as code finds them: delivery by delivery, of a test and a choice that it is given.
use Rattle.std.specs.Prelude.{Bool, true, false, not, ◌&&◌, List, ◌≡◌, refl, ℕ, zero, suc, ◌+◌, ◌≤◌, ◌<◌, max, get_or, Option, Some, None, MatchOption, IsSomeAnd}
use Rattle.std.specs.Option.{option_or}
use Rattle.std.proofs.Common.{◌⊎◌, inl, inr, sym, ap, subst, add-one, arith, eq-eqb, ne_eqb}
use Rattle.std.proofs.Math.Bool.{and-false}
use Rattle.std.proofs.Math.Option.{none, some}
use mathlib.Core.Option as maybe
use Rattle.rules.specs.Sequences.{no_delivery, times_ten, to_place, joined, match, matches}
use Rattle.rules.specs.Words.{when◌then◌else◌, ◌otherwise◌}
use Rattle.rules.specs.declared.Delivery.{Delivery}
use Rattle.rules.specs.declared.InternalSequence.{InternalSequence}

-- a value that there may be, as code has it
abbrev pub option_of : {A : Type 0} → maybe.Option A → Option A
option_of none = None
option_of (some x) = Some x

pub otherwise_option : {A : Type 0} (x y : maybe.Option A) → option_of (x otherwise y) ≡ option_or (option_of x) (option_of y)
otherwise_option none y = refl
otherwise_option (some x) y = refl

-- what a test answers is p
abbrev pub Tests : (Delivery → Bool → Type 0) → (Delivery → Bool) → Type 0
Tests answers p = (t : Delivery) (b : Bool) → answers t b → b ≡ p t

-- of two numbers, by their values, f gives what is picked
abbrev pub picked : (ℕ → ℕ → ℕ) → InternalSequence → InternalSequence → InternalSequence
picked f x y = record { 0 = f x.0 y.0 }

abbrev pub Picks : (InternalSequence → InternalSequence → InternalSequence → Type 0) → (ℕ → ℕ → ℕ) → Type 0
Picks gives f = (x y r : InternalSequence) → gives x y r → r ≡ picked f x y

-- rules' `joined`
abbrev join : (ℕ → ℕ → ℕ) → Option InternalSequence → Option InternalSequence → Option InternalSequence
join f None y = y
join f (Some x) None = Some x
join f (Some x) (Some y) = Some (picked f x y)

joined_option : (f : ℕ → ℕ → ℕ) (x y : maybe.Option InternalSequence) → option_of (joined f x y) ≡ join f (option_of x) (option_of y)
joined_option f none y = refl
joined_option f (some x) none = refl
joined_option f (some x) (some y) = refl

match_some : (p : Delivery → Bool) (t : Delivery) → (t.sequence.0 ≡ 0 → ⊥) → p t ≡ true → option_of (match p t) ≡ Some (times_ten t.sequence)
match_some p t n e = rw (ne_eqb t.sequence.0 0 n, e)

match_none : (p : Delivery → Bool) (t : Delivery) → (t.sequence.0 ≡ 0) ⊎ (p t ≡ false) → option_of (match p t) ≡ None
match_none p t (inl e) = rw (eq-eqb t.sequence.0 0 e)
match_none p t (inr e) = rw (e, and-false (not (to_place t)))

-- one delivery more
module _ (f : ℕ → ℕ → ℕ) (p : Delivery → Bool) (ts : List Delivery) (i : ℕ) where
  abbrev t : Delivery
  t = get_or ts i no_delivery

  more : option_of (matches f p ts (i + 1)) ≡ join f (option_of (matches f p ts i)) (option_of (match p t))
  unfolding matches
  more = rw (add-one i) (joined_option f (matches f p ts i) (match p t))

  pub more_first : None ≡ option_of (matches f p ts i) → (t.sequence.0 ≡ 0 → ⊥) → p t ≡ true → Some (times_ten t.sequence) ≡ option_of (matches f p ts (i + 1))
  more_first e n h = rw (more, sym e, match_some p t n h)

  pub more_next : (x : InternalSequence) → Some x ≡ option_of (matches f p ts i) → (t.sequence.0 ≡ 0 → ⊥) → p t ≡ true → Some (picked f x (times_ten t.sequence)) ≡ option_of (matches f p ts (i + 1))
  more_next x e n h = rw (more, sym e, match_some p t n h)

  pub more_none : (t.sequence.0 ≡ 0) ⊎ (p t ≡ false) → option_of (matches f p ts i) ≡ option_of (matches f p ts (i + 1))
  more_none h = go (option_of (matches f p ts i)) refl
    where
      go : (x : Option InternalSequence) → option_of (matches f p ts i) ≡ x → x ≡ option_of (matches f p ts (i + 1))
      go None e = rw (more, e, match_none p t h)
      go (Some x) e = rw (more, e, match_none p t h)

-- one step from a match, where there is one
pub stepped : (step : maybe.Option InternalSequence → maybe.Option InternalSequence) → step none ≡ none → (m : maybe.Option InternalSequence) (x r : Option InternalSequence) → x ≡ option_of m
    → MatchOption x (r ≡ None) (λ y. IsSomeAnd r (λ z. some z ≡ step (some y))) → r ≡ option_of (step m)
stepped step e m x r p h = go m r (subst (λ (x : Option InternalSequence). MatchOption x (r ≡ None) (λ y. IsSomeAnd r (λ z. some z ≡ step (some y)))) p h)
  where
    go : (m : maybe.Option InternalSequence) (r : Option InternalSequence) → MatchOption (option_of m) (r ≡ None) (λ y. IsSomeAnd r (λ z. some z ≡ step (some y))) → r ≡ option_of (step m)
    go none r h = rw e h
    go (some y) (Some z) h = ap option_of h
    go (some y) None h = absurd h

-- a greatest match is small
abbrev IsSmall : maybe.Option InternalSequence → Type 0
IsSmall none = Unit {0}
IsSmall (some x) = x.0 ≤ 990

joined_small : (x y : maybe.Option InternalSequence) → IsSmall x → IsSmall y → IsSmall (joined max x y)
joined_small none y f g = g
joined_small (some a) none f g = f
joined_small (some a) (some b) f g = omega arith

match_small : (b : Bool) (t : Delivery) → t.sequence.0 ≤ 99 → IsSmall (when b then some (times_ten t.sequence) else none)
match_small true t l = omega arith
match_small false t l = tt

module _ (p : Delivery → Bool) (ts : List Delivery) (m : ℕ) (l : (j : ℕ) → j < m → (get_or ts j no_delivery).sequence.0 ≤ 99) where
  matches_small : (n : ℕ) → n ≤ m → IsSmall (matches max p ts n)
  unfolding matches
  matches_small zero a = tt
  matches_small (suc n) a =
      let t = get_or ts n no_delivery in
      joined_small (matches max p ts n) (match p t) (matches_small n (omega arith)) (match_small (not (to_place t) && p t) t (l n (omega arith)))

  pub greatest_small : (x : InternalSequence) → Some x ≡ option_of (matches max p ts m) → x.0 ≤ 990
  greatest_small x e = go (matches max p ts m) (matches_small m (omega arith)) e
    where
      go : (y : maybe.Option InternalSequence) → IsSmall y → Some x ≡ option_of y → x.0 ≤ 990
      go none s q = absurd (cc)
      go (some y) s q = let h : x ≡ y = cc in omega (arith, ap (λ (z : InternalSequence). z.0) h)
