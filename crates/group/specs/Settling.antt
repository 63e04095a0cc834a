-- A remainder's answer and the states that it leaves, the ways that it tries in their order, and the outcome at each of them.
use Rattle.std.specs.Prelude.{Result, Ok, Err, Bool, true, false, List, ◌≢◌, ◌≡◌, refl, ℕ, zero, suc, ◌+◌, ◌-◌, ◌≤◌, ◌<◌, ltb, length}
use Rattle.std.proofs.Common.{sym, ap, ◌∙◌, add-one, arith}
use borrow.Author.Tests.{le-leb, lt-leb, ltb-true, ltb-false}
use Rattle.curve.specs.declared.Rung.{Rung}
use Rattle.curve.specs.declared.Rung.TheVariants.{Normal, Oil, Emergency}
use Rattle.ladder.specs.Ways.{way_of, up_of, by_price, Long}
use Rattle.ladder.specs.declared.Way.{Way}
use Rattle.ladder.specs.declared.Way.TheVariants.{Down, Up}
use Rattle.laws.specs.Sums.{below_suc}
use Rattle.rules.specs.Group.{room, normal, oil, emergency, last, headroom, unloading, crediting, last_step, plain, all, to_emergency, unload, credit, remainder}
use Rattle.rules.specs.Refusals.{Outcome, accepted, refused}
use Rattle.rules.specs.declared.InternalSequence.{InternalSequence}
use Rattle.rules.specs.declared.Refusal.{Refusal}
use Rattle.rules.specs.declared.Refusal.TheVariants.{NoRoom, NoHeadroom}
use Rattle.rules.specs.declared.Running.{Running}
use Rattle.rules.specs.Answers.{verdict_of}
use Rattle.ladder.specs.Ready.{AllReady}

-- the states after it; refused: as they were
abbrev pub states_of : List Running → Outcome (List Running) → List Running
states_of ss (accepted us) = us
states_of ss (refused x) = ss

-- the answer and the states are those of an outcome
pub record Settled (ss : List Running) (o : Outcome (List Running)) (r : Result (Unit {0}) Refusal) (us : List Running) : Type 0 where
  pub verdict : r ≡ verdict_of o
  pub states : us ≡ states_of ss o

-- by how much two numbers differ
abbrev pub apart : ℕ → ℕ → ℕ
apart a b = a - b + (b - a)

-- the ways by prices, in the order that a remainder tries them
abbrev pub rung_at : ℕ → Rung
rung_at zero = Normal
rung_at (suc zero) = Oil
rung_at (suc (suc i)) = Emergency

abbrev pub way_at : Bool → ℕ → Way
way_at false i = Down (rung_at i)
way_at true i = Up

abbrev pub tries : Bool → ℕ
tries false = 3
tries true = 1

-- the first i of them have less room than r
pub record Short (up : Bool) (n : ℕ) (ss : List Running) (r i : ℕ) : Type 0 where
  pub room : (j : ℕ) → j < i → all (way_of (way_at up j)).room ss n < r

-- down or up by r
abbrev pub outcome : Bool → InternalSequence → ℕ → List Running → ℕ → Outcome (List Running)
outcome false = unload
outcome true = credit

pub way_else : (i : ℕ) → i ≢ 0 → i ≢ 1 → Down Emergency ≡ way_at false i
way_else zero a b = absurd (a refl)
way_else (suc zero) a b = absurd (b refl)
way_else (suc (suc i)) a b = refl

pub way_side : (up : Bool) (i : ℕ) (way : Way) → way ≡ way_at up i → up ≡ up_of way
way_side false i way e = rw e
way_side true i way e = rw e

pub way_priced : (up : Bool) (i : ℕ) (way : Way) → way ≡ way_at up i → by_price way ≡ true
way_priced false zero way e = rw e
way_priced false (suc zero) way e = rw e
way_priced false (suc (suc i)) way e = rw e
way_priced true i way e = rw e

module _ (ss : List Running) {o : Outcome (List Running)} where
  pub settled_done : {us ws : List Running} → us ≡ ws → o ≡ accepted ws → Settled ss o (Ok tt) us
  settled_done b e = record { verdict = ap verdict_of (sym e); states = b ∙ ap (states_of ss) (sym e) }

  pub settled_end : {r : Result (Unit {0}) Refusal} {us ws : List Running} → r ≡ Ok tt → us ≡ ws → o ≡ accepted ws → Settled ss o r us
  settled_end v s q = record { verdict = v ∙ ap verdict_of (sym q); states = s ∙ ap (states_of ss) (sym q) }

  pub settled_refused : {x : Refusal} → o ≡ refused x → Settled ss o (Err x) ss
  settled_refused e = record { verdict = ap verdict_of (sym e); states = ap (states_of ss) (sym e) }

module _ (number : InternalSequence) (n : ℕ) (ss : List Running) (r : ℕ) where
  pub unload_normal : r ≤ all (room normal) ss n → unload number n ss r ≡ accepted (plain (unloading normal) n ss r)
  unfolding unload
  unload_normal a = rw (le-leb r (all (room normal) ss n) a)

  pub unload_oil : all (room normal) ss n < r → r ≤ all (room oil) ss n → unload number n ss r ≡ accepted (plain (unloading oil) n ss r)
  unfolding unload
  unload_oil a b = rw (lt-leb r (all (room normal) ss n) a, le-leb r (all (room oil) ss n) b)

  pub unload_emergency : all (room normal) ss n < r → all (room oil) ss n < r → r ≤ all (room emergency) ss n → unload number n ss r ≡ accepted (plain (unloading emergency) n ss r)
  unfolding unload
  unload_emergency a b c = rw (lt-leb r (all (room normal) ss n) a, lt-leb r (all (room oil) ss n) b, le-leb r (all (room emergency) ss n) c)

  pub unload_last : all (room normal) ss n < r → all (room oil) ss n < r → all (room emergency) ss n < r → r ≤ all (room last) ss n →
      unload number n ss r ≡ accepted (plain last_step n (to_emergency ss) (r - all (room emergency) ss n))
  unfolding unload
  unload_last a b c d =
      rw (lt-leb r (all (room normal) ss n) a, lt-leb r (all (room oil) ss n) b, lt-leb r (all (room emergency) ss n) c, le-leb r (all (room last) ss n) d)

  pub unload_none : all (room normal) ss n < r → all (room oil) ss n < r → all (room emergency) ss n < r → all (room last) ss n < r → unload number n ss r ≡ refused (NoRoom number)
  unfolding unload
  unload_none a b c d =
      rw (lt-leb r (all (room normal) ss n) a, lt-leb r (all (room oil) ss n) b, lt-leb r (all (room emergency) ss n) c, lt-leb r (all (room last) ss n) d)

  pub credit_up : r ≤ all headroom ss n → credit number n ss r ≡ accepted (plain crediting n ss r)
  unfolding credit
  credit_up a = rw (le-leb r (all headroom ss n) a)

  pub credit_none : all headroom ss n < r → credit number n ss r ≡ refused (NoHeadroom number)
  unfolding credit
  credit_none a = rw (lt-leb r (all headroom ss n) a)

module _ {up : Bool} {n : ℕ} {ss : List Running} {r : ℕ} where
  pub short_none : Short up n ss r 0
  short_none = record { room = λ j l. absurd (omega arith) }

  pub short_more : {i : ℕ} → Short up n ss r i → all (way_of (way_at up i)).room ss n < r → Short up n ss r (i + 1)
  short_more {i} s h = record { room = rw (add-one i) (below_suc (λ j. all (way_of (way_at up j)).room ss n < r) i s.room h) }

  pub short_all : {i m : ℕ} → i ≤ m → m ≤ i → Short up n ss r i → Short up n ss r m
  short_all {i} {m} a b s = let e : i ≡ m = omega arith in rw e at s

-- the first with room gives the outcome
pub outcome_by : (number : InternalSequence) (up : Bool) (i n : ℕ) (ss : List Running) (r : ℕ) → i < tries up → Short up n ss r i → r ≤ all (way_of (way_at up i)).room ss n →
    outcome up number n ss r ≡ accepted (plain (way_of (way_at up i)) n ss r)
outcome_by number false zero n ss r l s h = unload_normal number n ss r h
outcome_by number false (suc zero) n ss r l s h = unload_oil number n ss r (s.room 0 (omega arith)) h
outcome_by number false (suc (suc zero)) n ss r l s h = unload_emergency number n ss r (s.room 0 (omega arith)) (s.room 1 (omega arith)) h
outcome_by number false (suc (suc (suc i))) n ss r l s h = absurd (omega arith)
outcome_by number true i n ss r l s h = credit_up number n ss r h

-- none has room: the last step has, or there is no outcome
module _ (number : InternalSequence) (up : Bool) (n : ℕ) (ss : List Running) (r : ℕ) (s : Short up n ss r (tries up)) where
  pub outcome_no_headroom : up ≡ true → outcome up number n ss r ≡ refused (NoHeadroom number)
  outcome_no_headroom u = let q : Short true n ss r 1 = rw u at s in rw u (credit_none number n ss r (q.room 0 (omega arith)))

  pub outcome_no_room : up ≡ false → all (room last) ss n < r → outcome up number n ss r ≡ refused (NoRoom number)
  outcome_no_room u h = let q : Short false n ss r 3 = rw u at s in rw u (unload_none number n ss r (q.room 0 (omega arith)) (q.room 1 (omega arith)) (q.room 2 (omega arith)) h)

  pub outcome_last : up ≡ false → r ≤ all (room last) ss n → outcome up number n ss r ≡ accepted (plain last_step n (to_emergency ss) (r - all (room emergency) ss n))
  outcome_last u h = let q : Short false n ss r 3 = rw u at s in rw u (unload_last number n ss r (q.room 0 (omega arith)) (q.room 1 (omega arith)) (q.room 2 (omega arith)) h)

  pub last_enough : up ≡ false → all (room emergency) ss n < r
  last_enough u = let q : Short false n ss r 3 = rw u at s in q.room 2 (omega arith)

-- by the side of the remainder
pub remainder_outcome : (number : InternalSequence) (n total took : ℕ) (ss : List Running) (r : ℕ) → r ≡ apart total took → remainder number n total took ss ≡ outcome (ltb total took) number n ss r
unfolding remainder
remainder_outcome number n total took ss r d = go (ltb total took) refl
  where
    go : (up : Bool) → up ≡ ltb total took → remainder number n total took ss ≡ outcome up number n ss r
    go false u =
        let l : took ≤ total = ltb-false total took (sym u) in
        let e : total - took ≡ r = omega arith in
        rw (le-leb took total l) (ap (unload number n ss) e)
    go true u =
        let l : total < took = ltb-true total took (sym u) in
        let e : took - total ≡ r = omega arith in
        rw (lt-leb took total l) (ap (credit number n ss) e)

pub remainder_by : (number : InternalSequence) (n total took : ℕ) (ss : List Running) (r i : ℕ) (way : Way) → r ≡ apart total took → way ≡ way_at (ltb total took) i → i < tries (ltb total took) →
    Short (ltb total took) n ss r i → r ≤ all (way_of way).room ss n → remainder number n total took ss ≡ accepted (plain (way_of way) n ss r)
remainder_by number n total took ss r i way d e l s h = remainder_outcome number n total took ss r d ∙ rw e (outcome_by number (ltb total took) i n ss r l s (rw e at h))

-- where a remainder stands after i ways: the states are as they were, and the lists may hold the next way's lines
pub record Trying (up : Bool) (n : ℕ) (ss₀ : List Running) (r : ℕ) (one step cap : List ℕ) (ss : List Running) (i : ℕ) : Type 0 where
  pub lists : Long one step cap
  pub same : ss ≡ ss₀
  pub long : length ss ≡ 32
  pub ready : AllReady ss n
  pub short : Short up n ss r i
