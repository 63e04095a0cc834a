-- Keys that read the same make the same groups.
use mathlib.Core.List.{List, [], ◌∷◌}
use Rattle.std.specs.Prelude.{◌≡◌, ℕ, suc, ◌-◌, get_or}
use Rattle.std.proofs.Math.Path.{refl}
use Rattle.laws.specs.Keys.{Turns}
use Rattle.rules.specs.Group.{Amount, no_running, group_lines, remainder, signed, amount, up_to}
use Rattle.rules.specs.Hour.{key_at, same_key, member, scheduled, counted, share, Cells, Progress, shared, took_all, rest, group, groups}
use Rattle.rules.specs.Refusals.{accepted, and_then}
use Rattle.rules.specs.Sequences.{no_delivery}
use Rattle.rules.specs.Words.{when◌then◌else◌, sum_to}
use Rattle.rules.specs.declared.Hour.{Hour}
use Rattle.rules.specs.declared.Key.{Key}
use Rattle.rules.specs.declared.Running.{Running}

module _ (h : Hour) (ks ls : List Key) (same : (j : ℕ) → key_at ks j ≡ key_at ls j) where
  module _ (x : Key) where
    member_same : member ks x ≡ member ls x
    member_same = λ d j. same_key (same j d) x

    scheduled_same : (j : ℕ) → scheduled h ks x j ≡ scheduled h ls x j
    scheduled_same j = λ d. sum_to (λ i. when member_same d i then (get_or h.deliveries i no_delivery).mwh else 0) j

    pub counted_same : (j : ℕ) → counted ks x j ≡ counted ls x j
    counted_same j = λ d. sum_to (λ i. when member_same d i then 1 else 0) j

    share_same : (a : Amount) (j : ℕ) → share h ks x a j ≡ share h ls x a j
    unfolding share
    share_same a j = λ d.
        let total = scheduled_same h.ndeliveries d in
        signed a.minus
        (up_to total a.size (counted_same (suc j) d) (scheduled_same (suc j) d) - up_to total a.size (counted_same j d) (scheduled_same j d))

    shared_same : (ss ts us : List Running) (cell : Cells) → shared h ks x ss ts us cell ≡ shared h ls x ss ts us cell
    unfolding shared
    shared_same ss ts us cell = λ d j i item.
        when member_same d j then share_same (amount item (get_or ss i no_running) (get_or ts i no_running) (get_or us i no_running)) j d else cell j i item

    rest_same : (ss ts : List Running) (cell : Cells) → rest h ks x ss ts cell ≡ rest h ls x ss ts cell
    unfolding rest
    rest_same ss ts cell = λ d.
        and_then (remainder x.number h.nsources (scheduled_same h.ndeliveries d) (took_all h.nsources ss ts) ts) λ us.
        accepted (record { states = us; cells = shared_same ss ts us cell d })

    group_same : (p : Progress) → group h ks x p ≡ group h ls x p
    unfolding group
    group_same p = λ d.
        rest_same p.states (group_lines (member_same d) h.directs p.states h.ndirects) p.cells d

  pub same_groups : (xs : List Key) (p : Progress) → groups h ks xs p ≡ groups h ls xs p
  unfolding groups
  same_groups [] p = refl
  same_groups (x ∷ xs) p = λ d. and_then (group_same x p d) (λ q. same_groups xs q d)

  -- and are gone through in the same turns
  pub same_turns : (n : ℕ) (xs : List Key) → Turns ks n xs → Turns ls n xs
  same_turns n xs t = record { ordered = t.ordered; served = λ y e. rw (← counted_same y n) (t.served y e) }
