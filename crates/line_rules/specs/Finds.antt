-- Laws of the first that passes and of all that pass, up to a number.
use Rattle.std.specs.Prelude.{◌≡◌, refl, Bool, true, false, ◌&&◌, ◌||◌, List, ℕ, zero, suc, ◌+◌, ◌<◌, ◌≤◌, length, get_or, set, is_some}
use Rattle.std.proofs.Common.{ap, sym, ◌∙◌, ⊎_elim, eq-or-lt_of_le, le_of_suc-le-suc, add-one, arith, get_or-set_same, get_or-set_other}
use Rattle.std.proofs.Math.Option.{Option, none, some}
use Rattle.rules.specs.Words as words
use Rattle.rules.specs.Words.{when◌then◌else◌, all_to, any_to, ◌otherwise◌, find_to}
use Rattle.laws.specs.Choices.{true_not_false}
use Rattle.laws.specs.Lists.{find_to_none, find_to_passes}
use Rattle.line_rules.specs.Spellings.{spot_of}

-- Truth values.

pub truths_same : (p q : Bool) → (p ≡ true → q ≡ true) → (q ≡ true → p ≡ true) → p ≡ q
truths_same true q f g = sym (f refl)
truths_same false true f g = g refl
truths_same false false f g = refl

pub and_false : (b : Bool) → (b && false) ≡ false
and_false true = refl
and_false false = refl

pub and_true : (b : Bool) → (b && true) ≡ b
and_true true = refl
and_true false = refl

-- The loop that finds: its start, its step and its ends in the code's words.

pub find_to_zero : (p : ℕ → Bool) → find_to p 0 ≡ none
unfolding words.find_to
find_to_zero p = refl

pub find_to_more : (p : ℕ → Bool) (n : ℕ) → find_to p n ≡ none → p n ≡ false → find_to p (n + 1) ≡ none
unfolding words.find_to
find_to_more p n e f = rw (add-one, e, f)

pub find_to_here : (p : ℕ → Bool) (n i : ℕ) → i < n → find_to p i ≡ none → p i ≡ true → find_to p n ≡ some i
unfolding words.find_to
find_to_here p zero i h e t = absurd (omega arith)
find_to_here p (suc n) i h e t =
    ⊎_elim (λ (q : i ≡ n). rw (← q, e, t)) (λ l. rw (find_to_here p n i l e t)) (eq-or-lt_of_le (le_of_suc-le-suc h))

pub find_to_end : (p : ℕ → Bool) (n i : ℕ) → i ≤ n → n ≤ i → find_to p i ≡ none → find_to p n ≡ none
find_to_end p n i a b e = let q : i ≡ n = omega arith in rw q at e

-- one that alone passes is the first
pub find_to_only : (p : ℕ → Bool) (n i : ℕ) → i < n → p i ≡ true → ((j : ℕ) → j < n → p j ≡ true → j ≡ i) → find_to p n ≡ some i
find_to_only p n i l t one = go (find_to p n) refl
  where
    go : (x : Option ℕ) → find_to p n ≡ x → find_to p n ≡ some i
    go none e = true_not_false (sym t ∙ find_to_none p n e i l)
    go (some j) e = let f = find_to_passes p n j e in e ∙ ap some (one j f.0 f.1)

-- the same test at each place finds the same
pub find_to_same : (p q : ℕ → Bool) (n : ℕ) → ((i : ℕ) → i < n → p i ≡ q i) → find_to p n ≡ find_to q n
unfolding words.find_to
find_to_same p q zero h = refl
find_to_same p q (suc n) h = rw (find_to_same p q n (λ i l. h i (omega arith)), h n (omega arith))

-- none where all fail
pub find_to_fails : (p : ℕ → Bool) (n : ℕ) → ((i : ℕ) → i < n → p i ≡ false) → find_to p n ≡ none
unfolding words.find_to
find_to_fails p zero h = refl
find_to_fails p (suc n) h = rw (find_to_fails p n (λ i l. h i (omega arith)), h n (omega arith))

-- one is found where any passes
pub found_any : (p : ℕ → Bool) (n : ℕ) → any_to p n ≡ is_some (spot_of (find_to p n))
unfolding words.any_to words.find_to
found_any p zero = refl
found_any p (suc n) = go (find_to p n) (p n) (any_to p n) (found_any p n)
  where
    go : (x : Option ℕ) (b a : Bool) → a ≡ is_some (spot_of x) → (a || b) ≡ is_some (spot_of (x otherwise (when b then some n else none)))
    go none true a e = rw e
    go none false a e = rw e
    go (some i) b a e = rw e

otherwise_none : (x : Option ℕ) → (x otherwise none) ≡ x
otherwise_none none = refl
otherwise_none (some i) = refl

-- where at most one passes, the first that passes another test too is that one or none
abbrev pub kept : (ℕ → Bool) → Option ℕ → Option ℕ
kept u none = none
kept u (some i) = when u i then some i else none

pub find_to_both : (u p : ℕ → Bool) (n : ℕ) → ((i j : ℕ) → i < n → j < n → p i ≡ true → p j ≡ true → i ≡ j) → find_to (λ i. u i && p i) n ≡ kept u (find_to p n)
unfolding words.find_to
find_to_both u p zero one = refl
find_to_both u p (suc n) one =
    rw (find_to_both u p n (λ i j a b. one i j (omega arith) (omega arith)))
    (go (find_to p n) refl (u n) refl (p n) refl)
  where
    go : (x : Option ℕ) → find_to p n ≡ x → (v : Bool) → u n ≡ v → (b : Bool) → p n ≡ b
        → (kept u x otherwise (when v && b then some n else none)) ≡ kept u (x otherwise (when b then some n else none))
    go none e true ve true be = rw ve
    go none e false ve true be = rw ve
    go none e v ve false be = rw (and_false v)
    go (some i) e v ve true be =
        let f = find_to_passes p n i e in
        let q = one i n (omega (arith, f.0)) (omega arith) f.1 be in
        absurd (omega (arith, f.0))
    go (some i) e v ve false be = rw (and_false v) (otherwise_none (when u i then some i else none))

-- All that pass, up to a number.

pub all_to_zero : (p : ℕ → Bool) → all_to p 0 ≡ true
unfolding words.all_to
all_to_zero p = refl

pub all_to_more : (p : ℕ → Bool) (n : ℕ) → all_to p (n + 1) ≡ (all_to p n && p n)
unfolding words.all_to
all_to_more p n = rw add-one

-- a loop's step, without a way out
pub all_to_next : (p : ℕ → Bool) (n : ℕ) (a b : Bool) → a ≡ all_to p n → b ≡ p n → (a && b) ≡ all_to p (n + 1)
all_to_next p n a b e f = rw (all_to_more p n, e, f)

pub all_to_same : (p q : ℕ → Bool) (n : ℕ) → ((i : ℕ) → i < n → p i ≡ q i) → all_to p n ≡ all_to q n
unfolding words.all_to
all_to_same p q zero h = refl
all_to_same p q (suc n) h = rw (all_to_same p q n (λ i l. h i (omega arith)), h n (omega arith))

-- of a list with its element n set
pub all_to_set : {B : Type 0} (f : B → Bool) (xs : List B) (d x : B) (n : ℕ) → n < length xs
    → all_to (λ i. f (get_or (set xs n x) i d)) (n + 1) ≡ (all_to (λ i. f (get_or xs i d)) n && f x)
all_to_set f xs d x n h =
    all_to_more (λ i. f (get_or (set xs n x) i d)) n
    ∙ ap (λ (b : Bool). b && f (get_or (set xs n x) n d)) (all_to_same (λ i. f (get_or (set xs n x) i d)) (λ i. f (get_or xs i d)) n (λ i l. ap f (get_or-set_other xs n i x d (λ e. omega arith))))
    ∙ ap (λ y. all_to (λ i. f (get_or xs i d)) n && f y) (get_or-set_same xs n x d h)
