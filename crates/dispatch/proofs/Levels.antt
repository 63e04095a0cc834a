-- The invariants of both engines with the merits of what is left: a block more of the highest, and all that share the best merit in their turn.
use mathlib.Core.Bool.{Bool, true, false}
use mathlib.Core.List.{List}
use mathlib.Core.Logic.{inl, inr, ◌≢◌}
use mathlib.Core.Path.{◌≡◌, ◌∙◌}
use Prim.Native.Nat.{ℕ, ◌+◌, ◌-◌, ◌≤◌, ◌<◌}
use native.Mathlib.Decide.{dec_lt, ℕ_discrete}
use native.Mathlib.Nat.{mul-le-mul_left}
use native.Mathlib.Numerals.{add-one}
use native.Mathlib.Omega.{arith}
use lib.ListN.{length, set, length-set}
use lib.Seq.{get_or-set_same, get_or-set_other}
use Rattle.dispatch.proofs.Taking.{taken_more}
use Rattle.dispatch.specs.Taken.{First, merit, Next, Left, Small, Highest, Choice, Block, Passed, Turn, Going, Level, Turns}
use Rattle.laws.specs.Sums.{below_suc}
use Rattle.cutoff.specs.Lines.{lanes, at}
use Rattle.merit.specs.Settled.{More, Beats}

-- The merits of what is left, filled from the front, and changed with what is taken.

module _ {one step cap t : List ℕ} where
  pub left_none : (left : List ℕ) → length left ≡ lanes → Left one step cap t 0 left
  left_none left e = record { long = e; next = λ i l. absurd (omega arith) }

  pub left_more : {left : List ℕ} {i m : ℕ} → Left one step cap t i left → i < lanes → Next (at one i) (at step i) (at cap i) (at t i) m → Left one step cap t (i + 1) (set left i m)
  left_more {left} {i} {m} s l x = record {
    long = length-set left i m ∙ s.long;
    next = rw (add-one i) (below_suc (λ j. Next (at one j) (at step j) (at cap j) (at t j) (at (set left i m) j)) i
        (λ j k. rw (get_or-set_other left i j m 0 (λ e. omega arith)) (s.next j k))
        (rw (get_or-set_same left i m 0 (omega (arith, s.long))) x));
  }

  -- with what is taken of it
  pub left_grown : {left : List ℕ} {i k m : ℕ} → Left one step cap t i left → length t ≡ lanes → i < lanes → Next (at one i) (at step i) (at cap i) k m → Left one step cap (set t i k) (i + 1) (set left i m)
  left_grown {left} {i} {k} {m} s long l x = record {
    long = length-set left i m ∙ s.long;
    next = rw (add-one i) (below_suc (λ j. Next (at one j) (at step j) (at cap j) (at (set t i k) j) (at (set left i m) j)) i
        (λ j h. rw (get_or-set_other t i j k 0 (λ e. omega arith), get_or-set_other left i j m 0 (λ e. omega arith)) (s.next j h))
        (rw (get_or-set_same t i k 0 (omega arith), get_or-set_same left i m 0 (omega (arith, s.long))) x));
  }

  pub left_all : {left : List ℕ} {n i : ℕ} → i ≤ n → n ≤ i → Left one step cap t i left → Left one step cap t n left
  left_all {n = n} {i = i} l m s = let e : i ≡ n = omega arith in rw e at s

  pub left_small : {left : List ℕ} {n : ℕ} → Left one step cap t n left → Small left n
  left_small s = record { small = λ i l. (s.next i l).small }

  left_set : {left : List ℕ} {n i k m : ℕ} → Left one step cap t n left → n ≤ lanes → length t ≡ lanes → i < n → Next (at one i) (at step i) (at cap i) k m → Left one step cap (set t i k) n (set left i m)
  left_set {left} {n} {i} {k} {m} s small long l x = record {
    long = length-set left i m ∙ s.long;
    next = λ j lj. elim (ℕ_discrete j i) [
      | yes e ↦ rw e (rw (get_or-set_same t i k 0 (omega arith), get_or-set_same left i m 0 (omega (arith, s.long))) x)
      | no ne ↦ rw (get_or-set_other t i j k 0 ne, get_or-set_other left i j m 0 ne) (s.next j lj)
    ];
  }

  -- the highest of them is the best next MWh
  pub highest_choice : {up : Bool} {left : List ℕ} {n i : ℕ} → Left one step cap t n left → Highest up left n i → Choice up one step cap t n i
  highest_choice {up} {left} {n} {i} s h = record {
    none = λ e j l. elim (dec_lt (at t j) (at cap j)) [ yes r ↦ absurd (omega (arith, (s.next j l).left r, h.none e j l)) | no r ↦ omega arith ];
    some = λ l. record {
      in_range = l;
      room = roomy i l (h.some l).room;
      wins = λ j lj ne r. lower i j l lj (roomy i l (h.some l).room) r ((h.some l).wins j lj ne ((s.next j lj).left r).1);
    };
    within = h.within;
  }
    where
      roomy : (j : ℕ) → j < n → 0 < at left j → at t j < at cap j
      roomy j l r = elim (dec_lt (at t j) (at cap j)) [ yes m ↦ m | no m ↦ absurd (omega (arith, (s.next j l).none (omega arith))) ]

      lower : (a j : ℕ) → a < n → j < n → at t a < at cap a → at t j < at cap j → Beats More (First up) a (at left a) j (at left j) → Beats More (First up) a (merit one step a (at t a)) j (merit one step j (at t j))
      lower a j la lj ra rj (inl b) = inl (omega (arith, (s.next a la).left ra, (s.next j lj).left rj))
      lower a j la lj ra rj (inr b) = inr (omega (arith, b.0, (s.next a la).left ra, (s.next j lj).left rj), b.1)

-- what is left after more of a source is no better
next_falls : {one step cap m x : ℕ} (k g : ℕ) → Next one step cap k m → Next one step cap (k + g) x → x ≤ m
next_falls {step = step} {cap = cap} k g a b = elim (dec_lt (k + g) cap) [
  | no l ↦ omega (arith, b.none (omega arith))
  | yes l ↦ (
      let kg : k ≤ k + g = omega arith in
      omega (arith, mul-le-mul_left step kg, a.left (omega arith), b.left l))
]

-- and it is worse where not all of its MWh have one merit, or none of them is left
next_worse : {one step cap rest m x : ℕ} (k g : ℕ) → 0 < m → Block step cap k rest g → g < rest → Next one step cap k m → Next one step cap (k + g) x → x < m
next_worse {step = step} {cap = cap} k g some b l a c = elim (dec_lt (k + g) cap) [
  | no h ↦ omega (arith, c.none (omega arith))
  | yes h ↦ elim b.level [
    | inl e ↦ absurd (omega (arith, b.full l e))
    | inr e ↦ elim (dec_lt 0 step) [
      | no z ↦ absurd (omega (arith, b.full l (omega arith)))
      | yes z ↦ (
          let k1 : k + 1 ≤ k + g = omega arith in
          omega (arith, mul-le-mul_left step k1, a.left (omega arith), c.left h))
    ]
  ]
]

module _ {up : Bool} {one step cap : List ℕ} {n total : ℕ} where
  pub going_more : {sum rest i g m : ℕ} {t left : List ℕ} → n ≤ lanes → Going up one step cap n total sum t left → i < n → Choice up one step cap t n i → sum + g ≤ total →
      Block (at step i) (at cap i) (at t i) rest g → Next (at one i) (at step i) (at cap i) (at t i + g) m → Going up one step cap n total (sum + g) (set t i (at t i + g)) (set left i m)
  going_more small s l d h b x = record {
    within = h;
    taken = taken_more up one step cap n _ _ _ _ _ small s.taken l d b;
    left = left_set s.left small s.taken.long l x;
  }

  -- the highest taken from, nothing is above what it was
  pub going_level : {sum rest i g m : ℕ} {t left : List ℕ} → n ≤ lanes → Going up one step cap n total sum t left → i < n → Highest up left n i → sum + g ≤ total →
      Block (at step i) (at cap i) (at t i) rest g → Next (at one i) (at step i) (at cap i) (at t i + g) m → Level up one step cap n (at left i) total (sum + g) (set t i (at t i + g)) (set left i m)
  going_level {i = i} {m = m} {left = left} small s l d h b x = record {
    going = going_more small s l (highest_choice s.left d) h b x;
    some = (d.some l).room;
    most = λ j lj. elim (ℕ_discrete j i) [
      | yes e ↦ rw e (rw (get_or-set_same left i m 0 (omega (arith, s.left.long))) (next_falls _ _ (s.left.next i l) x))
      | no ne ↦ rw (get_or-set_other left i j m 0 ne) (below j lj ne)
    ];
  }
    where
      below : (j : ℕ) → j < n → j ≢ i → at left j ≤ at left i
      below j lj ne = elim (dec_lt 0 (at left j)) [
        | no z ↦ omega arith
        | yes z ↦ elim ((d.some l).wins j lj ne z) [ inl w ↦ omega arith | inr w ↦ omega (arith, w.0) ]
      ]

-- Those of one merit, in their turn.

pub turn_down : (n i : ℕ) → i < n → Turn false n i i
turn_down n i l = record { in_range = l; first = λ j lj ne p. omega arith; passed = λ j lj ne p. omega arith }

pub turn_up : (n i : ℕ) → i < n → Turn true n i (n - 1 - i)
turn_up n i l = record { in_range = omega arith; first = λ j lj ne p. omega arith; passed = λ j lj ne p. omega arith }

none_passed : (up : Bool) (n j : ℕ) → j < n → Passed up n 0 j → ⊥
none_passed false n j l p = omega arith
none_passed true n j l p = omega arith

module _ {up : Bool} {one step cap : List ℕ} {n m total : ℕ} where
  pub turns_start : {sum : ℕ} {t left : List ℕ} → Level up one step cap n m total sum t left → Turns up one step cap n m total sum 0 t left
  turns_start s = record { level = s; passed = λ l j lj p. absurd (none_passed up n j lj p) }

  pub turns_keep : {sum i a : ℕ} {t left : List ℕ} → Turns up one step cap n m total sum i t left → Turn up n i a → at left a < m → Turns up one step cap n m total sum (i + 1) t left
  turns_keep {a = a} {left = left} s u less = record {
    level = s.level;
    passed = λ l j lj p. elim (ℕ_discrete j a) [
      | yes e ↦ rw e less
      | no d ↦ s.passed l j lj (u.passed j lj d p)
    ];
  }

  turns_highest : {sum i a : ℕ} {t left : List ℕ} → Turns up one step cap n m total sum i t left → sum < total → Turn up n i a → at left a ≡ m → Highest up left n a
  turns_highest {a = a} {left = left} s l u e = record {
    none = λ h. absurd (omega (arith, u.in_range));
    some = λ la. record {
      in_range = la;
      room = omega (arith, s.level.some);
      wins = λ j lj ne r. elim (dec_lt (at left j) m) [
        | yes w ↦ inl (omega arith)
        | no w ↦ inr (omega (arith, s.level.most j lj), u.first j lj ne (λ p. omega (arith, s.passed l j lj p)))
      ];
    };
    within = omega (arith, u.in_range);
  }

  pub turns_choice : {sum i a : ℕ} {t left : List ℕ} → Turns up one step cap n m total sum i t left → sum < total → Turn up n i a → at left a ≡ m → Choice up one step cap t n a
  turns_choice s l u e = highest_choice s.level.going.left (turns_highest s l u e)

  pub turns_take : {sum i a g x : ℕ} {t left : List ℕ} → n ≤ lanes → Turns up one step cap n m total sum i t left → sum < total → Turn up n i a → at left a ≡ m →
      Block (at step a) (at cap a) (at t a) (total - sum) g → Next (at one a) (at step a) (at cap a) (at t a + g) x →
      Turns up one step cap n m total (sum + g) (i + 1) (set t a (at t a + g)) (set left a x)
  turns_take {sum} {i} {a} {g} {x} {t} {left} small s l u e b c = record {
    level = rw e at (going_level small s.level.going u.in_range (turns_highest s l u e) (omega (arith, b.within)) b c);
    passed = λ h j lj p. elim (ℕ_discrete j a) [
      | yes d ↦ rw d (rw (get_or-set_same left a x 0 (omega (arith, s.level.going.left.long, u.in_range))) (worse h))
      | no ne ↦ rw (get_or-set_other left a j x 0 ne) (s.passed (omega arith) j lj (u.passed j lj ne p))
    ];
  }
    where
      worse : sum + g < total → x < m
      worse h = rw e at (next_worse _ _ (omega (arith, e, s.level.some)) b (omega arith) (s.level.going.left.next a u.in_range) c)
