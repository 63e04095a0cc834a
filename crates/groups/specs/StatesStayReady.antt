-- Before every group of a valid hour the states are ready for it: an engine may move each source, and the group's D lines fit.
use Rattle.std.specs.Prelude.{Bool, true, false, List, ◌∷◌, map, ◌≡◌, refl, ℕ, ◌-◌, leb, length}
use Rattle.std.proofs.Common.{◌∙◌, arith}
use Rattle.std.proofs.lemmas.List.{length-map}
use Rattle.std.proofs.Math.ListN.{get_or-map}
use Rattle.balance.specs.ValidHour.{valid_balances, valid_small, valid_levels}
use Rattle.balance.specs.HourBalances.{plant_at, after_lines, Grouped, Balanced, lines_left, lines_directed, start_balanced}
use Rattle.balance.proofs.HourBalances.{grouped_balanced}
use Rattle.laws.specs.Choices.{refused_not_accepted, accepted_same}
use Rattle.laws.specs.Keys.{among, first_once, Turns}
use Rattle.merit.specs.LevelNeverBelowB.{state_at, Took}
use Rattle.merit.specs.PlainMoves.{plain_length}
use Rattle.merit.specs.RemainderMoves.{Unloaded, rung, bottom, no_room, unload_is, Credited, raising, no_headroom, credit_is}
use Rattle.groups.specs.LinesTaken.{LinesFit}
use Rattle.roundtrip.specs.GivenHour.{valid_given}
use Rattle.rules.specs.Group.{opened, room, emergency, lowered, unloading, last_step, crediting, to_emergency, unload, credit, remainder}
use Rattle.rules.specs.Hour.{member, Progress, opening}
use Rattle.rules.specs.Record.{no_source}
use Rattle.rules.specs.Refusals.{Outcome, accepted}
use Rattle.rules.specs.Words.{when◌then◌else◌}
use Rattle.rules.specs.Writing.{valid}
use Rattle.rules.specs.declared.Hour.{Hour}
use Rattle.rules.specs.declared.InternalSequence.{InternalSequence}
use Rattle.rules.specs.declared.Key.{Key}
use Rattle.rules.specs.declared.Refusal.TheVariants.{NoRoom, NoHeadroom}
use Rattle.rules.specs.declared.Running.{Running}
use Rattle.rules.specs.declared.Source.{Source}
use Rattle.ladder.specs.Ready.{Ready, AllReady, opened_ready, took_ready, remainder_ready}

-- the sources of a valid hour are ready at its start
pub source_ready : (h : Hour) → valid h ≡ true → (i : ℕ) → Ready (opened (plant_at h i))
source_ready h v i = opened_ready (plant_at h i) ((valid_balances h v).starts i) ((valid_small h v).plants i) (valid_levels h v i)

pub start_ready : (h : Hour) → valid h ≡ true → (ss : List Running) → ss ≡ map (λ s. opened s.plant) h.sources → AllReady ss h.nsources
start_ready h v ss e = record {
  n_small = (valid_given h v).sources.few;
  ready = λ i. rw (e, get_or-map (λ (s : Source). opened s.plant) h.sources i no_source) (source_ready h v i);
}

emergency_long : (ts : List Running) → length (to_emergency ts) ≡ length ts
unfolding to_emergency
emergency_long ts = length-map ts (λ (s : Running). lowered s (room emergency s))

-- a remainder leaves as many states as it found
pub remainder_long : (number : InternalSequence) (n total took : ℕ) (ts us : List Running) → remainder number n total took ts ≡ accepted us → length us ≡ length ts
unfolding remainder
remainder_long number n total took ts us e = go (leb took total) e
  where
    unloaded : (r : ℕ) (o : Outcome (List Running)) → Unloaded number n ts r o → o ≡ accepted us → length us ≡ length ts
    unloaded r o (rung x _ h) q = rw (← accepted_same _ us q) (plain_length (unloading x) n ts r)
    unloaded r o (bottom a b) q = rw (← accepted_same _ us q) (plain_length last_step n (to_emergency ts) _ ∙ emergency_long ts)
    unloaded r o (no_room h) q = refused_not_accepted (NoRoom number) us q

    credited : (r : ℕ) (o : Outcome (List Running)) → Credited number n ts r o → o ≡ accepted us → length us ≡ length ts
    credited r o (raising h) q = rw (← accepted_same _ us q) (plain_length crediting n ts r)
    credited r o (no_headroom h) q = refused_not_accepted (NoHeadroom number) us q

    go : (y : Bool) → (when y then unload number n ts (total - took) else credit number n ts (took - total)) ≡ accepted us → length us ≡ length ts
    go true q = unloaded (total - took) _ (unload_is number n ts (total - took)) q
    go false q = credited (took - total) _ (credit_is number n ts (took - total)) q

module _ (h : Hour) (ks : List Key) where
  -- where a run stands when the groups of xs are still to come
  pub record Standing (xs : List Key) (p : Progress) : Type 0 where
    pub balanced : Balanced h ks xs p
    pub ready : AllReady p.states h.nsources

  module _ (x : Key) (xs : List Key) (p : Progress) (t : Turns ks h.ndeliveries (x ∷ xs)) (s : Standing (x ∷ xs) p) where
    once : among xs x ≡ false
    once = first_once x xs t.ordered

    -- what the D lines of group x do to each source
    pub lines_took : (i : ℕ) → Took (state_at p.states i) (state_at (after_lines h ks x p) i)
    lines_took i = (lines_directed h ks x xs p once s.balanced i).took

    pub lines_ready : AllReady (after_lines h ks x p) h.nsources
    lines_ready = record { n_small = s.ready.n_small; ready = λ i. took_ready _ _ (s.ready.ready i) (lines_took i) }

    pub grouped_standing : (q : Progress) → Grouped h ks x p q → Standing xs q
    grouped_standing q g = record {
      balanced = grouped_balanced h ks x xs p q t s.balanced g;
      ready = rw g.is (remainder_ready _ _ _ _ _ g.us lines_ready g.done);
    }

    pub lines_fit : valid h ≡ true → LinesFit (member ks x) h.directs p.states h.nsources h.ndirects
    lines_fit v =
        let given = valid_given h v in
        record {
          n_small = given.sources.few;
          k_small = given.directs.few;
          source = λ q l. (given.directs.entry q l).source;
          delivery = λ q l. omega (arith, (given.directs.entry q l).delivery, given.deliveries.few);
          sound = s.balanced.sound;
          small = λ i. (s.ready.ready i).small;
          percent = λ i. omega (arith, lines_left h ks x xs i h.ndirects once, s.balanced.percent i);
        }

  pub start_standing : valid h ≡ true → (xs : List Key) → Standing xs (opening h)
  start_standing v xs = record { balanced = start_balanced h ks (valid_balances h v) xs; ready = start_ready h v _ refl }
