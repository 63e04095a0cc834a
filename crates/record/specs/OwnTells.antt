-- What the tests of a D entry and of the counts tell.
use Rattle.std.specs.Prelude.{◌≡◌, true, not, ◌&&◌, List, ℕ, ◌+◌, ◌<◌, ◌≤◌, leb, ltb, eqb, get_or}
use Rattle.std.proofs.Math.Decide.{dec_lt}
use Rattle.std.proofs.Common.{arith, ltb-true, ltb-false, leb-true, le-leb, lt-ltb, le-ltb}
use Rattle.std.proofs.lemmas.Bool.{not-true, lt-leb}
use Rattle.rules.specs.declared.Direct.{Direct}
use Rattle.laws.specs.Choices.{both_true}
use Rattle.ranges.specs.Inside.{direct_inside}
use Rattle.line_rules.specs.Tried.{Few, code_leaves, below_most}
use Rattle.line_rules.specs.declared.Counts.{Counts}
use Rattle.record.specs.Own as own
use Rattle.record.specs.Own.{direct_ruled, direct_own, few_entries}

-- D entries.

-- what an entry that is let through has shown
pub record DirectOwn (n : Counts) (x : Direct) (high based percents : List ℕ) : Type 0 where
  pub source : x.source < n.sources
  pub delivery : x.delivery < n.deliveries
  pub ruled : direct_ruled n x high based percents ≡ true

pub direct_own_lem : (n : Counts) (x : Direct) (high based percents : List ℕ) → direct_own n x high based percents ≡ true → DirectOwn n x high based percents
unfolding own.direct_own
direct_own_lem n x high based percents e =
    let a = both_true (ltb x.source n.sources) _ e in
    let b = both_true (ltb x.delivery n.deliveries) (direct_ruled n x high based percents) a.1 in
    record { source = ltb-true x.source n.sources a.0; delivery = ltb-true x.delivery n.deliveries b.0; ruled = b.1 }

-- its unit's percents with its own
pub own_total : (n : Counts) (x : Direct) (high based percents : List ℕ) → direct_own n x high based percents ≡ true → get_or percents x.source 0 + x.percent ≤ 100
own_total n x high based percents e =
    let a = both_true (direct_inside x.basis x.percent) _ (direct_own_lem n x high based percents e).ruled in
    let b = both_true (not (leb 32 n.directs)) _ a.1 in
    let c = both_true (not (eqb (get_or high x.source 0) 0)) _ b.1 in
    let d = both_true (code_leaves (get_or based x.source 0) x.basis && below_most x.basis (get_or high x.source 0)) _ c.1 in
    ltb-false 100 (get_or percents x.source 0 + x.percent) (not-true _ d.1)

-- two numbers whose sum is within a bound is not over it
pub sum_not_over : {r s a b : ℕ} (most : ℕ) → r ≡ a → s ≡ b → leb (r + s) most ≡ not (ltb most (a + b))
sum_not_over {r} {s} {a} {b} most p q = elim (dec_lt most (a + b)) [
  | yes l ↦ rw (lt-ltb most (a + b) l) (lt-leb (r + s) most (omega arith))
  | no l ↦ rw (le-ltb most (a + b) (omega arith)) (le-leb (r + s) most (omega arith))
]

-- Counts.

pub few_from : (n : Counts) → few_entries n ≡ true → Few n
unfolding own.few_entries
few_from n e =
    let a = both_true (leb n.sources 32) _ e in
    let b = both_true (leb n.deliveries 32) (leb n.directs 32) a.1 in
    record { sources = leb-true n.sources 32 a.0; deliveries = leb-true n.deliveries 32 b.0; directs = leb-true n.directs 32 b.1 }

pub few_to : (n : Counts) → Few n → few_entries n ≡ true
unfolding own.few_entries
few_to n f = rw (le-leb n.sources 32 f.sources, le-leb n.deliveries 32 f.deliveries, le-leb n.directs 32 f.directs)
