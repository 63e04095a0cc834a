-- The groups gone through one by one, in their turns: where a run stands, and what a group makes of it.
use Rattle.std.specs.Prelude.{true, List, ◌∷◌, map, ◌≡◌, refl, ℕ, ◌<◌, replicate}
use Rattle.std.proofs.Common.{◌∙◌}
use Rattle.std.proofs.Math.Path.{ap}
use Rattle.laws.specs.Keys.{among, Turns, turns_rest, turns_first}
use Rattle.rules.specs.Group.{opened, group_lines, remainder}
use Rattle.rules.specs.Hour.{keys, key_at, member, scheduled, Progress, shared, took_all, rest, group, turns, groups, opening}
use Rattle.rules.specs.Refusals.{Outcome, accepted, refused, and_then}
use Rattle.rules.specs.Writing.{valid}
use Rattle.rules.specs.declared.Hour.{Hour}
use Rattle.rules.specs.declared.Key.{Key}
use Rattle.rules.specs.declared.Refusal.{Refusal}
use Rattle.rules.specs.declared.Running.{Running}
use Rattle.groups.specs.MovesOfGroups.{Kept, kept_start}
use Rattle.groups.specs.StatesStayReady.{Standing, start_standing, grouped_standing}

module _ (h : Hour) (ks : List Key) where
  -- what all groups come to
  abbrev pub whole : Outcome Progress
  whole = groups h ks (turns (keys h)) (opening h)

  abbrev pub left_after : Key → List Running → List Running → Outcome (List Running)
  left_after x ss ts = remainder x.number h.nsources (scheduled h ks x h.ndeliveries) (took_all h.nsources ss ts) ts

  abbrev pub directed_to : Key → List Running → List Running
  directed_to x ss = group_lines (member ks x) h.directs ss h.ndirects

  -- where group x leaves a run
  abbrev gone : Key → Progress → List Running → Progress
  gone x p us = record { states = us; cells = shared h ks x p.states (directed_to x p.states) us p.cells }

  group_is : (x : Key) (p : Progress) (o : Outcome (List Running)) → left_after x p.states (directed_to x p.states) ≡ o → group h ks x p ≡ and_then o (λ us. accepted (gone x p us))
  unfolding group rest
  group_is x p o e = ap (λ (q : Outcome (List Running)). and_then q (λ us. accepted (gone x p us))) e

  -- the groups of xs are still to come; the others left these states and this table
  pub record Reached (xs : List Key) (ss : List Running) (led kept : List ℕ) : Type 0 where
    pub turns : Turns ks h.ndeliveries xs
    pub progress : Progress
    pub run : whole ≡ groups h ks xs progress
    pub stands : Standing h ks xs progress
    pub states : ss ≡ progress.states
    pub table : Kept h ks xs progress.cells led kept ss

  pub reached_start : (ss : List Running) → valid h ≡ true → ss ≡ map (λ s. opened s.plant) h.sources → Turns ks h.ndeliveries (turns (keys h)) →
      ((k : ℕ) → k < h.ndeliveries → among (turns (keys h)) (key_at ks k) ≡ true) → Reached (turns (keys h)) ss (replicate 32 0) (replicate 1024 0)
  reached_start ss v e t all = record {
    turns = t;
    progress = opening h;
    run = refl;
    stands = start_standing h ks v (turns (keys h));
    states = e;
    table = kept_start h ks (turns (keys h)) ss all;
  }

  module _ (x : Key) (xs : List Key) (ss : List Running) (led kept : List ℕ) (r : Reached (x ∷ xs) ss led kept) where
    after_group : (o : Outcome (List Running)) → left_after x ss (directed_to x ss) ≡ o → whole ≡ and_then (and_then o (λ us. accepted (gone x r.progress us))) (groups h ks xs)
    unfolding groups
    after_group o e = r.run ∙ ap (λ (q : Outcome Progress). and_then q (groups h ks xs)) (group_is x r.progress o (rw r.states at e))

    pub reached_turn : (us : List Running) (led' kept' : List ℕ) → left_after x ss (directed_to x ss) ≡ accepted us → Kept h ks xs (shared h ks x ss (directed_to x ss) us r.progress.cells) led' kept' us → Reached xs us led' kept'
    reached_turn us led' kept' e k = record {
      turns = turns_rest ks h.ndeliveries x xs r.turns;
      progress = gone x r.progress us;
      run = after_group (accepted us) e;
      stands = grouped_standing h ks x xs r.progress r.turns r.stands (gone x r.progress us)
          (record { members = turns_first ks h.ndeliveries x xs r.turns; us = us; done = rw r.states at e; is = refl });
      states = refl;
      table = rw r.states at k;
    }

    pub reached_refused : (y : Refusal) → left_after x ss (directed_to x ss) ≡ refused y → whole ≡ refused y
    reached_refused y e = after_group (refused y) e
