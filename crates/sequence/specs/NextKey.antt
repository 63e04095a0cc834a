-- The first key after x that a delivery has: it has a member, and none between has one. It is the next of the turns that are left.
use Rattle.std.specs.Prelude.{Bool, true, false, ◌&&◌, List, [], ◌∷◌, ◌≡◌, refl, ℕ, zero, suc, ◌+◌, ◌≤◌, ◌<◌, length, get_or, take, filter, Contains, Option, Some, None, IfSome, MatchOption}
use Rattle.std.proofs.Common.{cond, sym, ap, subst, ◌∙◌, add-one, ltb-true, ltb-false, lt-ltb, length-take}
use native.Mathlib.Omega.{arith}
use Rattle.laws.specs.Choices.{true_not_false}
use Rattle.std.proofs.lemmas.List.{get_or_default, get_or-take}
use Rattle.laws.specs.Sums.{sum_to_zero}
use Rattle.laws.specs.Keys.{key_same, key_itself, key_other, found_counted, among, among_first, among_either, Turns, turns_rest, turns_first, first_before}
use Rattle.rules.specs.Hour.{no_key, key_at, member, counted, goes_before}
use Rattle.rules.specs.Words.{when◌then◌else◌, sum_to}
use Rattle.rules.specs.declared.Key.{Key}
use Rattle.std.specs.List.{All}

-- r is the first key after x of the first n deliveries
pub record Next (ks : List Key) (n : ℕ) (x : Key) (r : Option Key) : Type 0 where
  pub after : IfSome r (λ k. goes_before x k ≡ true)
  pub found : IfSome r (λ k. 0 < counted ks k n)
  pub none : (y : Key) → goes_before x y ≡ true → IfSome r (λ k. goes_before y k ≡ true) → counted ks y n ≡ 0

-- Delivery by delivery.

-- whether the best so far, if there is one, comes after y
abbrev pub farther : Option Key → Key → Bool
farther None y = true
farther (Some x) y = goes_before y x

-- of the best so far and y the one that comes first, where y comes after x
abbrev pub nearer_of : Option Key → Key → Key → Option Key
nearer_of best y x = when goes_before x y && farther best y then Some y else best

pub next_start : (ks : List Key) (x : Key) → Next ks 0 x None
unfolding sum_to
next_start ks x = record { after = tt; found = tt; none = λ y l f. refl }

pub next_end : (ks : List Key) (x : Key) (n j : ℕ) (r : Option Key) → j ≤ n → n ≤ j → Next ks j x r → Next ks n x r
next_end ks x n j r a b h = let e : j ≡ n = omega arith in rw e at h

-- one delivery more
module _ (ks : List Key) (x : Key) (n : ℕ) where
  abbrev y : Key
  y = key_at ks n

  -- a number that delivery n has not is counted as before
  other : (z : Key) → (y.number.0 ≡ z.number.0 → ⊥) → counted ks z n ≡ 0 → counted ks z (suc n) ≡ 0
  unfolding sum_to
  other z f e = rw (key_other y z f) (omega arith)

  itself : 0 < counted ks y (suc n)
  unfolding sum_to
  itself = rw (key_itself y) (omega arith)

  still : (z : Key) → 0 < counted ks z n → 0 < counted ks z (suc n)
  unfolding sum_to
  still z l = omega arith

  apart : (z w : Key) → goes_before w z ≡ true → z.number.0 < w.number.0
  apart z w e = ltb-true z.number.0 w.number.0 e

  step : (best : Option Key) → Next ks n x best → Next ks (suc n) x (nearer_of best y x)
  step None h = go (goes_before x y) refl
    where
      go : (a : Bool) → goes_before x y ≡ a → Next ks (suc n) x (when a && true then Some y else None)
      go false e = record { after = tt; found = tt; none = λ z l f. other z (λ q. omega (arith, ltb-false y.number.0 x.number.0 e, apart z x l)) (h.none z l tt) }
      go true e = record { after = e; found = itself; none = λ z l f. other z (λ q. omega (arith, apart y z f)) (h.none z l tt) }
  step (Some k) h = go (goes_before x y) (goes_before y k) refl refl
    where
      go : (a b : Bool) → goes_before x y ≡ a → goes_before y k ≡ b → Next ks (suc n) x (when a && b then Some y else Some k)
      go false b e g = record { after = h.after; found = still k h.found; none = λ z l f. other z (λ q. omega (arith, ltb-false y.number.0 x.number.0 e, apart z x l)) (h.none z l f) }
      go true false e g = record { after = h.after; found = still k h.found; none = λ z l f. other z (λ q. omega (arith, ltb-false k.number.0 y.number.0 g, apart k z f)) (h.none z l f) }
      go true true e g = record {
        after = e;
        found = itself;
        none = λ z l f. let a = apart y z f in other z (λ q. omega arith) (h.none z l (lt-ltb k.number.0 z.number.0 (omega (arith, apart k y g))));
      }

  pub next_more : (best : Option Key) → Next ks n x best → (r : Option Key) → r ≡ nearer_of best y x → Next ks (n + 1) x r
  next_more best h r e = rw (add-one n, e) (step best h)

-- All at once.

-- what holds of all that pass
all_filtered : (p : Key → Bool) (P : Key → Type 0) (xs : List Key) → All P (filter p xs) → (j : ℕ) (d : Key) → j < length xs → p (get_or xs j d) ≡ true → P (get_or xs j d)
all_filtered p P [] h j d l e = absurd (omega arith)
all_filtered p P (x ∷ xs) h zero d l e = (rw e at h) 0 d (omega arith)
all_filtered p P (x ∷ xs) h (suc j) d l e = all_filtered p P xs (rest (p x) h) j d (omega arith) e
  where
    rest : (b : Bool) → All P (cond b (x ∷ filter p xs) (filter p xs)) → All P (filter p xs)
    rest true h = λ k d l. h (suc k) d (omega arith)
    rest false h = h

-- the last of those of the first n that x goes before, or none where there is none
module _ (ks : List Key) (n : ℕ) (x : Key) where
  counted_none : (P : Key → Type 0) → All P (filter (goes_before x) (take n ks)) → n ≤ length ks → (y : Key) → goes_before x y ≡ true → (P y → ⊥) → counted ks y n ≡ 0
  counted_none P h l y a f = sum_to_zero n _ (λ j m. go j m (member ks y j) refl)
    where
      go : (j : ℕ) → j < n → (b : Bool) → member ks y j ≡ b → ◌≡◌ {A = ℕ} (when b then 1 else 0) 0
      go j m false e = refl
      go j m true e =
          let same : get_or (take n ks) j no_key ≡ y = get_or-take n ks j no_key m ∙ key_same (key_at ks j) y e in
          absurd (f (subst P same (all_filtered (goes_before x) P (take n ks) h j no_key (omega (arith, length-take n ks)) (ap (goes_before x) same ∙ a))))

  pub next_found : n ≤ length ks → (r : Option Key) → IfSome r (Contains (take n ks)) → IfSome r (λ k. goes_before x k ≡ true)
      → MatchOption r (filter (goes_before x) (take n ks) ≡ []) (λ k. All (λ y. y.number.0 ≤ k.number.0) (filter (goes_before x) (take n ks))) → Next ks n x r
  next_found l None c a f = record { after = tt; found = tt; none = λ y g h. counted_none (λ z. ⊥) (rw f (λ k d m. absurd (omega arith))) l y g (λ z. z) }
  next_found l (Some k) c a f = record {
    after = a;
    found =
        let m : c.0 < n = omega (arith, length-take n ks, c.1) in
        found_counted ks k n (record { at = c.0; within = omega arith; is = get_or_default ks c.0 no_key k (omega arith) ∙ sym (get_or-take n ks c.0 k m) ∙ c.2 }) m;
    none = λ y g h. counted_none (λ z. z.number.0 ≤ k.number.0) f l y g (λ z. omega (arith, z, ltb-true k.number.0 y.number.0 h));
  }

-- The turns that are left.

-- xs are the keys after x that the first n deliveries have, in their turns
pub record Coming (ks : List Key) (n : ℕ) (x : Key) (xs : List Key) : Type 0 where
  pub turns : Turns ks n xs
  pub after : (y : Key) → among xs y ≡ true → goes_before x y ≡ true
  pub all : (y : Key) → 0 < counted ks y n → goes_before x y ≡ true → among xs y ≡ true

pub coming_none : (ks : List Key) (n : ℕ) (x : Key) (xs : List Key) → Coming ks n x xs → Next ks n x None → xs ≡ []
coming_none ks n x [] c f = refl
coming_none ks n x (y ∷ ys) c f = absurd (omega (arith, turns_first ks n y ys c.turns, f.none y (c.after y (among_first y ys)) tt))

-- the next one, and those after it
pub record First (ks : List Key) (n : ℕ) (y : Key) (xs : List Key) : Type 0 where
  pub ys : List Key
  pub is : xs ≡ y ∷ ys
  pub rest : Coming ks n y ys

pub coming_next : (ks : List Key) (n : ℕ) (x : Key) (xs : List Key) (k : Key) → Coming ks n x xs → Next ks n x (Some k) → First ks n k xs
coming_next ks n x [] k c f = true_not_false (sym (c.all k f.found f.after))
coming_next ks n x (y ∷ ys) k c f = record { ys = ys; is = ap (λ (z : Key). z ∷ ys) (sym same); rest = rw same left }
  where
    here : among (y ∷ ys) k ≡ true
    here = c.all k f.found f.after

    -- nothing that has a member stands before it
    same : k ≡ y
    same = among_either (k ≡ y) y ys k here (λ q. q)
        (λ q. absurd (omega (arith, turns_first ks n y ys c.turns, f.none y (c.after y (among_first y ys)) (lt-ltb k.number.0 y.number.0 (first_before y ys c.turns.ordered k q)))))

    left : Coming ks n y ys
    left = record {
      turns = turns_rest ks n y ys c.turns;
      after = λ z m. lt-ltb z.number.0 y.number.0 (first_before y ys c.turns.ordered z m);
      all = λ z m g.
          let a = ltb-true z.number.0 y.number.0 g in
          let b = ltb-true y.number.0 x.number.0 (c.after y (among_first y ys)) in
          among_either (among ys z ≡ true) y ys z (c.all z m (lt-ltb z.number.0 x.number.0 (omega arith)))
          (λ q. absurd (let w = ap (λ (k : Key). k.number.0) q in omega arith)) (λ q. q);
    }

-- before the first group
pub coming_all : (ks : List Key) (n : ℕ) (x : Key) (xs : List Key) → Turns ks n xs → ((y : Key) → 0 < counted ks y n → (among xs y ≡ true) × (goes_before x y ≡ true)) → Coming ks n x xs
coming_all ks n x xs t f = record { turns = t; after = λ y e. (f y (t.served y e)).1; all = λ y c g. (f y c).0 }
