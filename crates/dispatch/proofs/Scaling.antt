-- The loop that makes a table of sources, filled from the front.
use mathlib.Core.List.{List}
use mathlib.Core.Path.{◌≡◌}
use Prim.Native.Nat.{ℕ, ◌+◌, ◌≤◌, ◌<◌}
use native.Mathlib.Numerals.{add-one}
use native.Mathlib.Omega.{arith}
use lib.ListN.{length, set}
use lib.Seq.{get_or-set_same, get_or-set_other}
use Rattle.laws.specs.Sums.{below_suc}
use Rattle.cutoff.specs.Lines.{lanes, at, Source, Table}

module _ {one step cap : List ℕ} where
  pub table_none : {span inv : List ℕ} → Table one step span inv cap 0
  table_none = record { n_small = omega arith; source = λ i l. absurd (omega arith) }

  pub table_more : {span inv : List ℕ} {i w v : ℕ} → length span ≡ lanes → length inv ≡ lanes → i < lanes → Table one step span inv cap i → Source (at one i) (at step i) w v (at cap i)
      → Table one step (set span i w) (set inv i v) cap (i + 1)
  table_more {span} {inv} {i} {w} {v} a b l t s = record {
    n_small = omega arith;
    source = rw (add-one i) (below_suc (λ j. Source (at one j) (at step j) (at (set span i w) j) (at (set inv i v) j) (at cap j)) i
        (λ j m. rw (get_or-set_other span i j w 0 (λ e. omega arith), get_or-set_other inv i j v 0 (λ e. omega arith)) (t.source j m))
        (rw (get_or-set_same span i w 0 (omega arith), get_or-set_same inv i v 0 (omega arith)) s));
  }

  pub table_all : {span inv : List ℕ} {n i : ℕ} → i ≤ n → n ≤ i → Table one step span inv cap i → Table one step span inv cap n
  table_all {n = n} {i = i} l m t = let e : i ≡ n = omega arith in rw e at t
