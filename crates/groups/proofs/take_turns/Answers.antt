-- The sources passed are opened and have their lines; between turns all keys from x up are done and the lines are those of the states;
-- in a turn the D lines passed are taken, then the sources passed are moved, and the lead's row has where each source went.
use mathlib.Core.List.{map}
use mathlib.Core.Path.{◌≡◌, refl, sym, ap, ◌∙◌}
use Prim.Native.Nat.{◌≤◌, ◌<◌}
use native.Mathlib.Omega.{arith}
use Rattle.std.proofs.lemmas.Result.{err_from_is_err_and}
use lib.Dec.{ltb}
use lib.ListN.{length, get_or, length-set}
use Rattle.cutoff.specs.Lines.{at}
use Rattle.group.specs.FirstWay.{lines_none, lines_all, lines_renewed, Rest, first_rest, shifted_plant}
use Rattle.groups.specs.GroupTurns.{accepted_outcome, TurnFits, Worked, Rested, turn_lines, turn_ready, turn_start, turn_deliveries, turn_blank, turn_within, turn_members, turn_done, turn_refused, between_start, between_next, between_fits}
use Rattle.groups.specs.LinesTaken.{line_at, LinesFit, LineFits, line_took, line_directs, LinesTaken, taken_none, taken_skip, taken_all, taken_ready, taken_small, taken_take, line_fits_lem}
use Rattle.groups.specs.RowKept.{ready_stands, row_more}
use Rattle.groups.specs.StatesOpened.{opened_none, opened_more, opened_all, lines_opened}
use Rattle.groups.specs.StatesStayReady.{source_ready, remainder_long}
use Rattle.ladder.specs.Ready.{Ready, AllReady, step_of, took_ready, remainder_ready, shifted_more, shifted_skip, shifted_all}
use Rattle.members.specs.Members.{mwhs_small, total_scheduled}
use Rattle.merit.specs.LevelNeverBelowB.{state_at, Took}
use Rattle.roundtrip.specs.GivenHour.{valid_given}
use Rattle.rules.specs.Group.{remainder, opened}
use Rattle.rules.specs.Hour.{member}
use Rattle.rules.specs.Record.{no_source}
use Rattle.rules.specs.Refusals.{accepted}
use Rattle.rules.specs.declared.Running.{Running}
use Rattle.groups.proofs.take_turns.Goals as goal
use Rattle.groups.proofs.take_turns.Goals.{then-eq, else-eq, then-m-gt0, else-m-gt0, then-enough+else-loop-i-test, else-enough+in_ok-settle}

pub loop-a-init : goal.loop-a-init
loop-a-init c =
    (rw c.blank_states.ensures (opened_none _), lines_none refl refl refl refl refl)

pub offset_bounds-h-a : goal.offset_bounds-h-a
offset_bounds-h-a c =
    let few_sources : c.args.h.nsources ≤ 32 = (valid_given _ c.requires.0).sources.few in
    let a_small : c.loop-a.a < 32 = omega (arith, c.loop-a-test.true, few_sources) in
    omega (arith, a_small)

pub offset_bounds-states-a : goal.offset_bounds-states-a
offset_bounds-states-a c =
    let few_sources : c.args.h.nsources ≤ 32 = (valid_given _ c.requires.0).sources.few in
    let a_small : c.loop-a.a < 32 = omega (arith, c.loop-a-test.true, few_sources) in
    omega (arith, a_small)

pub offset_bounds-step-a : goal.offset_bounds-step-a
offset_bounds-step-a c =
    let few_sources : c.args.h.nsources ≤ 32 = (valid_given _ c.requires.0).sources.few in
    let a_small : c.loop-a.a < 32 = omega (arith, c.loop-a-test.true, few_sources) in
    omega (arith, a_small)

pub bounds-h-a : goal.bounds-h-a
bounds-h-a c =
    let few_sources : c.args.h.nsources ≤ 32 = (valid_given _ c.requires.0).sources.few in
    let a_small : c.loop-a.a < 32 = omega (arith, c.loop-a-test.true, few_sources) in
    a_small

pub bounds-states-a : goal.bounds-states-a
bounds-states-a c =
    let few_sources : c.args.h.nsources ≤ 32 = (valid_given _ c.requires.0).sources.few in
    let a_small : c.loop-a.a < 32 = omega (arith, c.loop-a-test.true, few_sources) in
    a_small

pub bounds-step-a : goal.bounds-step-a
bounds-step-a c =
    let few_sources : c.args.h.nsources ≤ 32 = (valid_given _ c.requires.0).sources.few in
    let a_small : c.loop-a.a < 32 = omega (arith, c.loop-a-test.true, few_sources) in
    a_small

pub step_of-requires : goal.step_of-requires
step_of-requires c =
    (source_ready c.args.h c.requires.0 c.loop-a.a).small.plant

pub renew-requires : goal.renew-requires
renew-requires c =
    let few_sources : c.args.h.nsources ≤ 32 = (valid_given _ c.requires.0).sources.few in
    let a_small : c.loop-a.a < 32 = omega (arith, c.loop-a-test.true, few_sources) in
    let opens : c.open-s.result ≡ opened (get_or c.args.h.sources c.loop-a.a no_source).plant = c.open-s.ensures in
    let opened_is_ready : Ready c.open-s.result = rw opens (source_ready c.args.h c.requires.0 c.loop-a.a) in
    (a_small, opened_is_ready)

pub loop-a-preserved : goal.loop-a-preserved
loop-a-preserved c =
    let few_sources : c.args.h.nsources ≤ 32 = (valid_given _ c.requires.0).sources.few in
    let a_small : c.loop-a.a < 32 = omega (arith, c.loop-a-test.true, few_sources) in
    let opens : c.open-s.result ≡ opened (get_or c.args.h.sources c.loop-a.a no_source).plant = c.open-s.ensures in
    let l = c.loop-a.invariant in (
      opened_more _ _ _ _ a_small l.0 opens,
      lines_opened l.1 a_small l.0.long (c.step_of.ensures ∙ ap (λ (s : Running). step_of s.plant) (sym opens)) c.renew.ensures,
    )

pub next_after-next-requires : goal.next_after-next-requires
next_after-next-requires c =
    let few_deliveries : c.args.h.ndeliveries ≤ 32 = (valid_given _ c.requires.0).deliveries.few in
    few_deliveries

pub loop-next-init : goal.loop-next-init
loop-next-init c =
    let l = c.loop-a in
    let all_opened : l.states ≡ map (λ s. opened s.plant) c.args.h.sources = opened_all _ _ _ c.requires.0 l.auto.a-end c.loop-a-test.false l.invariant.0 in
    (between_start _ _ c.requires.0 c.requires.1 _ _ _ _ all_opened c.requires.3.led c.requires.3.kept c.next_after-next.ensures, lines_all l.auto.a-end c.loop-a-test.false l.invariant.1, l.invariant.0.long)

pub lead_of-lead-requires : goal.lead_of-lead-requires
lead_of-lead-requires c =
    let few_deliveries : c.args.h.ndeliveries ≤ 32 = (valid_given _ c.requires.0).deliveries.few in
    let fits : TurnFits c.args.h c.args.keys c.in-Some.key c.loop-next.states c.loop-next.led c.loop-next.kept = between_fits _ _ _ _ _ _ c.requires.0 _ c.in-Some.is c.loop-next.invariant.0 in
    (few_deliveries, turn_members _ _ _ _ _ _ fits)

pub loop-q-init : goal.loop-q-init
loop-q-init c =
    let fits : TurnFits c.args.h c.args.keys c.in-Some.key c.loop-next.states c.loop-next.led c.loop-next.kept = between_fits _ _ _ _ _ _ c.requires.0 _ c.in-Some.is c.loop-next.invariant.0 in
    let l = c.loop-next.invariant in
    (taken_none _ _ _ _, turn_blank _ _ _ _ _ _ fits _ c.lead_of-lead.ensures, l.1, l.2)

pub offset_bounds-h-q : goal.offset_bounds-h-q
offset_bounds-h-q c =
    let fits : TurnFits c.args.h c.args.keys c.in-Some.key c.loop-next.states c.loop-next.led c.loop-next.kept = between_fits _ _ _ _ _ _ c.requires.0 _ c.in-Some.is c.loop-next.invariant.0 in
    let fit_lines : LinesFit (member c.args.keys c.in-Some.key) c.args.h.directs c.loop-next.states c.args.h.nsources c.args.h.ndirects = turn_lines _ _ _ _ _ _ fits in
    omega (arith, fit_lines.k_small)

pub bounds-h-q : goal.bounds-h-q
bounds-h-q c =
    let fits : TurnFits c.args.h c.args.keys c.in-Some.key c.loop-next.states c.loop-next.led c.loop-next.kept = between_fits _ _ _ _ _ _ c.requires.0 _ c.in-Some.is c.loop-next.invariant.0 in
    let fit_lines : LinesFit (member c.args.keys c.in-Some.key) c.args.h.directs c.loop-next.states c.args.h.nsources c.args.h.ndirects = turn_lines _ _ _ _ _ _ fits in
    omega (arith, fit_lines.k_small, c.loop-q-test.true)

pub offset_bounds-keys-delivery : goal.offset_bounds-keys-delivery
offset_bounds-keys-delivery c =
    let fits : TurnFits c.args.h c.args.keys c.in-Some.key c.loop-next.states c.loop-next.led c.loop-next.kept = between_fits _ _ _ _ _ _ c.requires.0 _ c.in-Some.is c.loop-next.invariant.0 in
    let fit_lines : LinesFit (member c.args.keys c.in-Some.key) c.args.h.directs c.loop-next.states c.args.h.nsources c.args.h.ndirects = turn_lines _ _ _ _ _ _ fits in
    let delivery_small : (line_at c.args.h.directs c.loop-q.q).delivery < 32 = fit_lines.delivery c.loop-q.q c.loop-q-test.true in
    omega (arith, delivery_small)

pub bounds-keys-delivery : goal.bounds-keys-delivery
bounds-keys-delivery c =
    let fits : TurnFits c.args.h c.args.keys c.in-Some.key c.loop-next.states c.loop-next.led c.loop-next.kept = between_fits _ _ _ _ _ _ c.requires.0 _ c.in-Some.is c.loop-next.invariant.0 in
    let fit_lines : LinesFit (member c.args.keys c.in-Some.key) c.args.h.directs c.loop-next.states c.args.h.nsources c.args.h.ndirects = turn_lines _ _ _ _ _ _ fits in
    let delivery_small : (line_at c.args.h.directs c.loop-q.q).delivery < 32 = fit_lines.delivery c.loop-q.q c.loop-q-test.true in
    delivery_small

pub offset_bounds-states-source : goal.offset_bounds-states-source
offset_bounds-states-source c =
    let fits : TurnFits c.args.h c.args.keys c.in-Some.key c.loop-next.states c.loop-next.led c.loop-next.kept = between_fits _ _ _ _ _ _ c.requires.0 _ c.in-Some.is c.loop-next.invariant.0 in
    let fit_lines : LinesFit (member c.args.keys c.in-Some.key) c.args.h.directs c.loop-next.states c.args.h.nsources c.args.h.ndirects = turn_lines _ _ _ _ _ _ fits in
    let source_in : (line_at c.args.h.directs c.loop-q.q).source < c.args.h.nsources = fit_lines.source c.loop-q.q c.loop-q-test.true in
    let few_sources : c.args.h.nsources ≤ 32 = (valid_given _ c.requires.0).sources.few in
    let source_small : (line_at c.args.h.directs c.loop-q.q).source < 32 = omega (arith, source_in, few_sources) in
    omega (arith, source_small)

pub bounds-states-source : goal.bounds-states-source
bounds-states-source c =
    let fits : TurnFits c.args.h c.args.keys c.in-Some.key c.loop-next.states c.loop-next.led c.loop-next.kept = between_fits _ _ _ _ _ _ c.requires.0 _ c.in-Some.is c.loop-next.invariant.0 in
    let fit_lines : LinesFit (member c.args.keys c.in-Some.key) c.args.h.directs c.loop-next.states c.args.h.nsources c.args.h.ndirects = turn_lines _ _ _ _ _ _ fits in
    let source_in : (line_at c.args.h.directs c.loop-q.q).source < c.args.h.nsources = fit_lines.source c.loop-q.q c.loop-q-test.true in
    let few_sources : c.args.h.nsources ≤ 32 = (valid_given _ c.requires.0).sources.few in
    let source_small : (line_at c.args.h.directs c.loop-q.q).source < 32 = omega (arith, source_in, few_sources) in
    source_small

pub offset_bounds-states-source-then-eq : goal.offset_bounds-states-source-then-eq
offset_bounds-states-source-then-eq c =
    let fits : TurnFits c.args.h c.args.keys c.in-Some.key c.loop-next.states c.loop-next.led c.loop-next.kept = between_fits _ _ _ _ _ _ c.requires.0 _ c.in-Some.is c.loop-next.invariant.0 in
    let fit_lines : LinesFit (member c.args.keys c.in-Some.key) c.args.h.directs c.loop-next.states c.args.h.nsources c.args.h.ndirects = turn_lines _ _ _ _ _ _ fits in
    let source_in : (line_at c.args.h.directs c.loop-q.q).source < c.args.h.nsources = fit_lines.source c.loop-q.q c.loop-q-test.true in
    let few_sources : c.args.h.nsources ≤ 32 = (valid_given _ c.requires.0).sources.few in
    let source_small : (line_at c.args.h.directs c.loop-q.q).source < 32 = omega (arith, source_in, few_sources) in
    omega (arith, source_small)

pub bounds-states-source-then-eq : goal.bounds-states-source-then-eq
bounds-states-source-then-eq c =
    let fits : TurnFits c.args.h c.args.keys c.in-Some.key c.loop-next.states c.loop-next.led c.loop-next.kept = between_fits _ _ _ _ _ _ c.requires.0 _ c.in-Some.is c.loop-next.invariant.0 in
    let fit_lines : LinesFit (member c.args.keys c.in-Some.key) c.args.h.directs c.loop-next.states c.args.h.nsources c.args.h.ndirects = turn_lines _ _ _ _ _ _ fits in
    let source_in : (line_at c.args.h.directs c.loop-q.q).source < c.args.h.nsources = fit_lines.source c.loop-q.q c.loop-q-test.true in
    let few_sources : c.args.h.nsources ≤ 32 = (valid_given _ c.requires.0).sources.few in
    let source_small : (line_at c.args.h.directs c.loop-q.q).source < 32 = omega (arith, source_in, few_sources) in
    source_small

pub allocate-t-requires-clause-sound : goal.allocate-t-requires-clause-sound
allocate-t-requires-clause-sound c =
    let fits : TurnFits c.args.h c.args.keys c.in-Some.key c.loop-next.states c.loop-next.led c.loop-next.kept = between_fits _ _ _ _ _ _ c.requires.0 _ c.in-Some.is c.loop-next.invariant.0 in
    let fit_lines : LinesFit (member c.args.keys c.in-Some.key) c.args.h.directs c.loop-next.states c.args.h.nsources c.args.h.ndirects = turn_lines _ _ _ _ _ _ fits in
    let its_line : LineFits (state_at c.loop-q.states (line_at c.args.h.directs c.loop-q.q).source) (line_at c.args.h.directs c.loop-q.q) = line_fits_lem _ _ _ _ _ fit_lines _ _ _ c.loop-q-test.true c.loop-q.invariant.0 (sym c.eq.ensures ∙ c.if-eq.true) in
    (its_line.sound, its_line.small)

pub allocate-t-requires-clause-percents : goal.allocate-t-requires-clause-percents
allocate-t-requires-clause-percents c =
    let fits : TurnFits c.args.h c.args.keys c.in-Some.key c.loop-next.states c.loop-next.led c.loop-next.kept = between_fits _ _ _ _ _ _ c.requires.0 _ c.in-Some.is c.loop-next.invariant.0 in
    let fit_lines : LinesFit (member c.args.keys c.in-Some.key) c.args.h.directs c.loop-next.states c.args.h.nsources c.args.h.ndirects = turn_lines _ _ _ _ _ _ fits in
    let its_line : LineFits (state_at c.loop-q.states (line_at c.args.h.directs c.loop-q.q).source) (line_at c.args.h.directs c.loop-q.q) = line_fits_lem _ _ _ _ _ fit_lines _ _ _ c.loop-q-test.true c.loop-q.invariant.0 (sym c.eq.ensures ∙ c.if-eq.true) in
    its_line.percent

pub overflow_sub-took : goal.overflow_sub-took
overflow_sub-took c =
    let fits : TurnFits c.args.h c.args.keys c.in-Some.key c.loop-next.states c.loop-next.led c.loop-next.kept = between_fits _ _ _ _ _ _ c.requires.0 _ c.in-Some.is c.loop-next.invariant.0 in
    let fit_lines : LinesFit (member c.args.keys c.in-Some.key) c.args.h.directs c.loop-next.states c.args.h.nsources c.args.h.ndirects = turn_lines _ _ _ _ _ _ fits in
    let its_line : LineFits (state_at c.loop-q.states (line_at c.args.h.directs c.loop-q.q).source) (line_at c.args.h.directs c.loop-q.q) = line_fits_lem _ _ _ _ _ fit_lines _ _ _ c.loop-q-test.true c.loop-q.invariant.0 (sym c.eq.ensures ∙ c.if-eq.true) in
    let its_took : Took (state_at c.loop-q.states (line_at c.args.h.directs c.loop-q.q).source) c.allocate-t.result = line_directs _ _ _ its_line c.allocate-t.ensures in
    its_took.more

pub overflow_add-took : goal.overflow_add-took
overflow_add-took c =
    let fits : TurnFits c.args.h c.args.keys c.in-Some.key c.loop-next.states c.loop-next.led c.loop-next.kept = between_fits _ _ _ _ _ _ c.requires.0 _ c.in-Some.is c.loop-next.invariant.0 in
    let fit_lines : LinesFit (member c.args.keys c.in-Some.key) c.args.h.directs c.loop-next.states c.args.h.nsources c.args.h.ndirects = turn_lines _ _ _ _ _ _ fits in
    let its_line : LineFits (state_at c.loop-q.states (line_at c.args.h.directs c.loop-q.q).source) (line_at c.args.h.directs c.loop-q.q) = line_fits_lem _ _ _ _ _ fit_lines _ _ _ c.loop-q-test.true c.loop-q.invariant.0 (sym c.eq.ensures ∙ c.if-eq.true) in
    omega (arith, (line_took _ _ _ its_line c.allocate-t.ensures).1, taken_small _ _ _ _ _ fit_lines _ _ _ c.loop-q.auto.q-end c.loop-q.invariant.0)

pub overflow_mul-lead : goal.overflow_mul-lead
overflow_mul-lead c =
    let fits : TurnFits c.args.h c.args.keys c.in-Some.key c.loop-next.states c.loop-next.led c.loop-next.kept = between_fits _ _ _ _ _ _ c.requires.0 _ c.in-Some.is c.loop-next.invariant.0 in
    let lead_small : c.lead_of-lead.result < 32 = turn_within _ _ _ _ _ _ fits _ c.lead_of-lead.ensures in
    let fit_lines : LinesFit (member c.args.keys c.in-Some.key) c.args.h.directs c.loop-next.states c.args.h.nsources c.args.h.ndirects = turn_lines _ _ _ _ _ _ fits in
    let source_in : (line_at c.args.h.directs c.loop-q.q).source < c.args.h.nsources = fit_lines.source c.loop-q.q c.loop-q-test.true in
    let few_sources : c.args.h.nsources ≤ 32 = (valid_given _ c.requires.0).sources.few in
    let source_small : (line_at c.args.h.directs c.loop-q.q).source < 32 = omega (arith, source_in, few_sources) in
    omega (arith, lead_small, source_small)

pub overflow_add-lead : goal.overflow_add-lead
overflow_add-lead c =
    let fits : TurnFits c.args.h c.args.keys c.in-Some.key c.loop-next.states c.loop-next.led c.loop-next.kept = between_fits _ _ _ _ _ _ c.requires.0 _ c.in-Some.is c.loop-next.invariant.0 in
    let lead_small : c.lead_of-lead.result < 32 = turn_within _ _ _ _ _ _ fits _ c.lead_of-lead.ensures in
    let fit_lines : LinesFit (member c.args.keys c.in-Some.key) c.args.h.directs c.loop-next.states c.args.h.nsources c.args.h.ndirects = turn_lines _ _ _ _ _ _ fits in
    let source_in : (line_at c.args.h.directs c.loop-q.q).source < c.args.h.nsources = fit_lines.source c.loop-q.q c.loop-q-test.true in
    let few_sources : c.args.h.nsources ≤ 32 = (valid_given _ c.requires.0).sources.few in
    let source_small : (line_at c.args.h.directs c.loop-q.q).source < 32 = omega (arith, source_in, few_sources) in
    omega (arith, lead_small, source_small)

pub keep-requires : goal.keep-requires
keep-requires c =
    let fits : TurnFits c.args.h c.args.keys c.in-Some.key c.loop-next.states c.loop-next.led c.loop-next.kept = between_fits _ _ _ _ _ _ c.requires.0 _ c.in-Some.is c.loop-next.invariant.0 in
    let lead_small : c.lead_of-lead.result < 32 = turn_within _ _ _ _ _ _ fits _ c.lead_of-lead.ensures in
    let fit_lines : LinesFit (member c.args.keys c.in-Some.key) c.args.h.directs c.loop-next.states c.args.h.nsources c.args.h.ndirects = turn_lines _ _ _ _ _ _ fits in
    let source_in : (line_at c.args.h.directs c.loop-q.q).source < c.args.h.nsources = fit_lines.source c.loop-q.q c.loop-q-test.true in
    let few_sources : c.args.h.nsources ≤ 32 = (valid_given _ c.requires.0).sources.few in
    let source_small : (line_at c.args.h.directs c.loop-q.q).source < 32 = omega (arith, source_in, few_sources) in
    let so_far : AllReady c.loop-q.states c.args.h.nsources = taken_ready _ _ _ _ _ fit_lines _ _ _ c.loop-q.auto.q-end c.loop-q.invariant.0 (turn_start _ _ _ _ _ _ fits) in
    let its_line : LineFits (state_at c.loop-q.states (line_at c.args.h.directs c.loop-q.q).source) (line_at c.args.h.directs c.loop-q.q) = line_fits_lem _ _ _ _ _ fit_lines _ _ _ c.loop-q-test.true c.loop-q.invariant.0 (sym c.eq.ensures ∙ c.if-eq.true) in
    let its_took : Took (state_at c.loop-q.states (line_at c.args.h.directs c.loop-q.q).source) c.allocate-t.result = line_directs _ _ _ its_line c.allocate-t.ensures in
    let its_ready : Ready c.allocate-t.result = took_ready _ _ (so_far.ready _) its_took in
    (omega (arith, lead_small, source_small), ready_stands _ (so_far.ready _), ready_stands _ its_ready)

pub renew-requires-then-eq : goal.renew-requires-then-eq
renew-requires-then-eq c =
    let fits : TurnFits c.args.h c.args.keys c.in-Some.key c.loop-next.states c.loop-next.led c.loop-next.kept = between_fits _ _ _ _ _ _ c.requires.0 _ c.in-Some.is c.loop-next.invariant.0 in
    let fit_lines : LinesFit (member c.args.keys c.in-Some.key) c.args.h.directs c.loop-next.states c.args.h.nsources c.args.h.ndirects = turn_lines _ _ _ _ _ _ fits in
    let source_in : (line_at c.args.h.directs c.loop-q.q).source < c.args.h.nsources = fit_lines.source c.loop-q.q c.loop-q-test.true in
    let few_sources : c.args.h.nsources ≤ 32 = (valid_given _ c.requires.0).sources.few in
    let source_small : (line_at c.args.h.directs c.loop-q.q).source < 32 = omega (arith, source_in, few_sources) in
    let so_far : AllReady c.loop-q.states c.args.h.nsources = taken_ready _ _ _ _ _ fit_lines _ _ _ c.loop-q.auto.q-end c.loop-q.invariant.0 (turn_start _ _ _ _ _ _ fits) in
    let its_line : LineFits (state_at c.loop-q.states (line_at c.args.h.directs c.loop-q.q).source) (line_at c.args.h.directs c.loop-q.q) = line_fits_lem _ _ _ _ _ fit_lines _ _ _ c.loop-q-test.true c.loop-q.invariant.0 (sym c.eq.ensures ∙ c.if-eq.true) in
    let its_took : Took (state_at c.loop-q.states (line_at c.args.h.directs c.loop-q.q).source) c.allocate-t.result = line_directs _ _ _ its_line c.allocate-t.ensures in
    let its_ready : Ready c.allocate-t.result = took_ready _ _ (so_far.ready _) its_took in
    (source_small, its_ready)

pub loop-q-preserved : goal.loop-q-preserved
loop-q-preserved c =
    let fits : TurnFits c.args.h c.args.keys c.in-Some.key c.loop-next.states c.loop-next.led c.loop-next.kept = between_fits _ _ _ _ _ _ c.requires.0 _ c.in-Some.is c.loop-next.invariant.0 in
    let lead_small : c.lead_of-lead.result < 32 = turn_within _ _ _ _ _ _ fits _ c.lead_of-lead.ensures in
    let fit_lines : LinesFit (member c.args.keys c.in-Some.key) c.args.h.directs c.loop-next.states c.args.h.nsources c.args.h.ndirects = turn_lines _ _ _ _ _ _ fits in
    let source_in : (line_at c.args.h.directs c.loop-q.q).source < c.args.h.nsources = fit_lines.source c.loop-q.q c.loop-q-test.true in
    let few_sources : c.args.h.nsources ≤ 32 = (valid_given _ c.requires.0).sources.few in
    let source_small : (line_at c.args.h.directs c.loop-q.q).source < 32 = omega (arith, source_in, few_sources) in
    let so_far : AllReady c.loop-q.states c.args.h.nsources = taken_ready _ _ _ _ _ fit_lines _ _ _ c.loop-q.auto.q-end c.loop-q.invariant.0 (turn_start _ _ _ _ _ _ fits) in
    let i = c.loop-q.invariant in
    let source = (line_at c.args.h.directs c.loop-q.q).source in
    let within : source < length c.loop-q.states = omega (arith, i.3, source_small) in
    elim c.if-eq.branch [
      | then-eq w ↦
          let its_line : LineFits (state_at c.loop-q.states (line_at c.args.h.directs c.loop-q.q).source) (line_at c.args.h.directs c.loop-q.q) = line_fits_lem _ _ _ _ _ fit_lines _ _ _ c.loop-q-test.true c.loop-q.invariant.0 (sym c.eq.ensures ∙ w.if-eq.true) in
          let its_took : Took (state_at c.loop-q.states (line_at c.args.h.directs c.loop-q.q).source) w.allocate-t.result = line_directs _ _ _ its_line w.allocate-t.ensures in
          let its_ready : Ready w.allocate-t.result = took_ready _ _ (so_far.ready _) its_took in (
            rw (w.states-is, w.took-is) (taken_take _ _ _ _ _ fit_lines _ _ _ _ c.loop-q-test.true i.0 (sym c.eq.ensures ∙ w.if-eq.true) w.allocate-t.ensures),
            rw (w.kept-is, w.states-is) (row_more _ _ _ _ _ _ _ _ _ _ lead_small source_in few_sources within (ready_stands _ (so_far.ready source)) (ready_stands _ its_ready) refl w.keep.ensures i.1),
            rw (w.states-is, w.down-is, w.room-is, w.above-is, w.head-is) (lines_renewed i.2 few_sources source_in within its_took.plant w.renew-then-eq.ensures),
            rw w.states-is (length-set c.loop-q.states source w.allocate-t.result ∙ i.3),
          )
      | else-eq w ↦ (
        rw (w.states-is, w.took-is) (taken_skip _ _ _ _ _ _ _ i.0 (sym c.eq.ensures ∙ w.if-eq.false)),
        rw (w.kept-is, w.states-is) i.1,
        rw (w.states-is, w.down-is, w.room-is, w.above-is, w.head-is) i.2,
        rw w.states-is i.3,
      )
    ]

pub total_of-total-requires : goal.total_of-total-requires
total_of-total-requires c =
    let fits : TurnFits c.args.h c.args.keys c.in-Some.key c.loop-next.states c.loop-next.led c.loop-next.kept = between_fits _ _ _ _ _ _ c.requires.0 _ c.in-Some.is c.loop-next.invariant.0 in
    mwhs_small _ _ c.requires.2 (turn_deliveries _ _ _ _ _ _ fits)

pub shift_one-u-requires-clause-ready : goal.shift_one-u-requires-clause-ready
shift_one-u-requires-clause-ready c =
    let same_state : state_at c.loop-i.states c.loop-i.i ≡ state_at c.loop-q.states c.loop-i.i = c.loop-i.invariant.0.beyond _ (omega arith) in
    let fits : TurnFits c.args.h c.args.keys c.in-Some.key c.loop-next.states c.loop-next.led c.loop-next.kept = between_fits _ _ _ _ _ _ c.requires.0 _ c.in-Some.is c.loop-next.invariant.0 in
    let all_taken : LinesTaken (member c.args.keys c.in-Some.key) c.args.h.directs c.loop-next.states c.args.h.nsources c.args.h.ndirects c.loop-q.states c.loop-q.took = taken_all _ _ _ _ _ _ _ _ c.loop-q.auto.q-end c.loop-q-test.false c.loop-q.invariant.0 in
    let directed_ready : AllReady c.loop-q.states c.args.h.nsources = turn_ready _ _ _ _ _ _ fits _ all_taken.states in
    let before_ready : Ready (state_at c.loop-i.states c.loop-i.i) = rw same_state (directed_ready.ready _) in
    before_ready

pub shift_one-u-requires-clause-room : goal.shift_one-u-requires-clause-room
shift_one-u-requires-clause-room c =
    let fits : TurnFits c.args.h c.args.keys c.in-Some.key c.loop-next.states c.loop-next.led c.loop-next.kept = between_fits _ _ _ _ _ _ c.requires.0 _ c.in-Some.is c.loop-next.invariant.0 in
    let all_taken : LinesTaken (member c.args.keys c.in-Some.key) c.args.h.directs c.loop-next.states c.args.h.nsources c.args.h.ndirects c.loop-q.states c.loop-q.took = taken_all _ _ _ _ _ _ _ _ c.loop-q.auto.q-end c.loop-q-test.false c.loop-q.invariant.0 in
    let directed_ready : AllReady c.loop-q.states c.args.h.nsources = turn_ready _ _ _ _ _ _ fits _ all_taken.states in
    let rest : Rest c.in-Some.key.number c.args.h.nsources c.total_of-total.result c.loop-q.took c.loop-q.states c.take_first-enough.new.taken = first_rest c.loop-q.invariant.2 _ _ _ _ _ directed_ready c.distance-rest.ensures (rw c.if-enough.true at c.take_first-enough.ensures) in
    let same_state : state_at c.loop-i.states c.loop-i.i ≡ state_at c.loop-q.states c.loop-i.i = c.loop-i.invariant.0.beyond _ (omega arith) in
    rw same_state (rest.within _ c.loop-i-test.true)

pub overflow_mul-lead-then-m-gt0 : goal.overflow_mul-lead-then-m-gt0
overflow_mul-lead-then-m-gt0 c =
    let fits : TurnFits c.args.h c.args.keys c.in-Some.key c.loop-next.states c.loop-next.led c.loop-next.kept = between_fits _ _ _ _ _ _ c.requires.0 _ c.in-Some.is c.loop-next.invariant.0 in
    let lead_small : c.lead_of-lead.result < 32 = turn_within _ _ _ _ _ _ fits _ c.lead_of-lead.ensures in
    let few_sources : c.args.h.nsources ≤ 32 = (valid_given _ c.requires.0).sources.few in
    let i_small : c.loop-i.i < 32 = omega (arith, few_sources, c.loop-i-test.true) in
    omega (arith, lead_small, i_small)

pub overflow_add-lead-then-m-gt0 : goal.overflow_add-lead-then-m-gt0
overflow_add-lead-then-m-gt0 c =
    let fits : TurnFits c.args.h c.args.keys c.in-Some.key c.loop-next.states c.loop-next.led c.loop-next.kept = between_fits _ _ _ _ _ _ c.requires.0 _ c.in-Some.is c.loop-next.invariant.0 in
    let lead_small : c.lead_of-lead.result < 32 = turn_within _ _ _ _ _ _ fits _ c.lead_of-lead.ensures in
    let few_sources : c.args.h.nsources ≤ 32 = (valid_given _ c.requires.0).sources.few in
    let i_small : c.loop-i.i < 32 = omega (arith, few_sources, c.loop-i-test.true) in
    omega (arith, lead_small, i_small)

pub keep-requires-then-m-gt0 : goal.keep-requires-then-m-gt0
keep-requires-then-m-gt0 c =
    let fits : TurnFits c.args.h c.args.keys c.in-Some.key c.loop-next.states c.loop-next.led c.loop-next.kept = between_fits _ _ _ _ _ _ c.requires.0 _ c.in-Some.is c.loop-next.invariant.0 in
    let lead_small : c.lead_of-lead.result < 32 = turn_within _ _ _ _ _ _ fits _ c.lead_of-lead.ensures in
    let few_sources : c.args.h.nsources ≤ 32 = (valid_given _ c.requires.0).sources.few in
    let i_small : c.loop-i.i < 32 = omega (arith, few_sources, c.loop-i-test.true) in
    let same_state : state_at c.loop-i.states c.loop-i.i ≡ state_at c.loop-q.states c.loop-i.i = c.loop-i.invariant.0.beyond _ (omega arith) in
    let all_taken : LinesTaken (member c.args.keys c.in-Some.key) c.args.h.directs c.loop-next.states c.args.h.nsources c.args.h.ndirects c.loop-q.states c.loop-q.took = taken_all _ _ _ _ _ _ _ _ c.loop-q.auto.q-end c.loop-q-test.false c.loop-q.invariant.0 in
    let directed_ready : AllReady c.loop-q.states c.args.h.nsources = turn_ready _ _ _ _ _ _ fits _ all_taken.states in
    let before_ready : Ready (state_at c.loop-i.states c.loop-i.i) = rw same_state (directed_ready.ready _) in
    let rest : Rest c.in-Some.key.number c.args.h.nsources c.total_of-total.result c.loop-q.took c.loop-q.states c.take_first-enough.new.taken = first_rest c.loop-q.invariant.2 _ _ _ _ _ directed_ready c.distance-rest.ensures (rw c.if-enough.true at c.take_first-enough.ensures) in
    let after_ready : Ready c.shift_one-u.result = rw (c.shift_one-u.ensures, same_state) (rest.ready _ c.loop-i-test.true) in
    (omega (arith, lead_small, i_small), ready_stands _ before_ready, ready_stands _ after_ready)

pub renew-requires-then-m-gt0 : goal.renew-requires-then-m-gt0
renew-requires-then-m-gt0 c =
    let few_sources : c.args.h.nsources ≤ 32 = (valid_given _ c.requires.0).sources.few in
    let i_small : c.loop-i.i < 32 = omega (arith, few_sources, c.loop-i-test.true) in
    let fits : TurnFits c.args.h c.args.keys c.in-Some.key c.loop-next.states c.loop-next.led c.loop-next.kept = between_fits _ _ _ _ _ _ c.requires.0 _ c.in-Some.is c.loop-next.invariant.0 in
    let all_taken : LinesTaken (member c.args.keys c.in-Some.key) c.args.h.directs c.loop-next.states c.args.h.nsources c.args.h.ndirects c.loop-q.states c.loop-q.took = taken_all _ _ _ _ _ _ _ _ c.loop-q.auto.q-end c.loop-q-test.false c.loop-q.invariant.0 in
    let directed_ready : AllReady c.loop-q.states c.args.h.nsources = turn_ready _ _ _ _ _ _ fits _ all_taken.states in
    let rest : Rest c.in-Some.key.number c.args.h.nsources c.total_of-total.result c.loop-q.took c.loop-q.states c.take_first-enough.new.taken = first_rest c.loop-q.invariant.2 _ _ _ _ _ directed_ready c.distance-rest.ensures (rw c.if-enough.true at c.take_first-enough.ensures) in
    let same_state : state_at c.loop-i.states c.loop-i.i ≡ state_at c.loop-q.states c.loop-i.i = c.loop-i.invariant.0.beyond _ (omega arith) in
    let after_ready : Ready c.shift_one-u.result = rw (c.shift_one-u.ensures, same_state) (rest.ready _ c.loop-i-test.true) in
    (i_small, after_ready)

pub loop-i-preserved : goal.loop-i-preserved
loop-i-preserved c =
    let fits : TurnFits c.args.h c.args.keys c.in-Some.key c.loop-next.states c.loop-next.led c.loop-next.kept = between_fits _ _ _ _ _ _ c.requires.0 _ c.in-Some.is c.loop-next.invariant.0 in
    let lead_small : c.lead_of-lead.result < 32 = turn_within _ _ _ _ _ _ fits _ c.lead_of-lead.ensures in
    let few_sources : c.args.h.nsources ≤ 32 = (valid_given _ c.requires.0).sources.few in
    let i_small : c.loop-i.i < 32 = omega (arith, few_sources, c.loop-i-test.true) in
    let same_state : state_at c.loop-i.states c.loop-i.i ≡ state_at c.loop-q.states c.loop-i.i = c.loop-i.invariant.0.beyond _ (omega arith) in
    let all_taken : LinesTaken (member c.args.keys c.in-Some.key) c.args.h.directs c.loop-next.states c.args.h.nsources c.args.h.ndirects c.loop-q.states c.loop-q.took = taken_all _ _ _ _ _ _ _ _ c.loop-q.auto.q-end c.loop-q-test.false c.loop-q.invariant.0 in
    let directed_ready : AllReady c.loop-q.states c.args.h.nsources = turn_ready _ _ _ _ _ _ fits _ all_taken.states in
    let before_ready : Ready (state_at c.loop-i.states c.loop-i.i) = rw same_state (directed_ready.ready _) in
    let rest : Rest c.in-Some.key.number c.args.h.nsources c.total_of-total.result c.loop-q.took c.loop-q.states c.take_first-enough.new.taken = first_rest c.loop-q.invariant.2 _ _ _ _ _ directed_ready c.distance-rest.ensures (rw c.if-enough.true at c.take_first-enough.ensures) in
    let i = c.loop-i.invariant in
    let within : c.loop-i.i < length c.loop-i.states = omega (arith, i.3, i_small) in
    elim c.if-m-gt0.branch [
      | then-m-gt0 w ↦
          let after_ready : Ready w.shift_one-u.result = rw (w.shift_one-u.ensures, same_state) (rest.ready _ c.loop-i-test.true) in (
            rw w.states-is (shifted_more _ _ _ _ _ _ i_small c.loop-q.invariant.3 i.0 w.shift_one-u.ensures),
            rw (w.kept-is, w.states-is) (λ ss xs r. row_more _ _ _ _ _ _ _ _ _ _ lead_small c.loop-i-test.true few_sources within (ready_stands _ before_ready) (ready_stands _ after_ready) refl w.keep-then-m-gt0.ensures (i.1 ss xs r)),
            rw (w.states-is, w.down-is, w.room-is, w.above-is, w.head-is) (lines_renewed i.2 few_sources c.loop-i-test.true within (shifted_plant (ltb c.total_of-total.result c.loop-q.took) (state_at c.loop-i.states c.loop-i.i) w.shift_one-u.result (at c.take_first-enough.new.taken c.loop-i.i) w.shift_one-u.ensures) w.renew-then-m-gt0.ensures),
            rw w.states-is (length-set c.loop-i.states c.loop-i.i w.shift_one-u.result ∙ i.3),
          )
      | else-m-gt0 w ↦ (
        rw w.states-is (shifted_skip _ _ _ _ _ (omega (arith, w.if-m-gt0.false)) i.0),
        rw (w.kept-is, w.states-is) i.1,
        rw (w.states-is, w.down-is, w.room-is, w.above-is, w.head-is) i.2,
        rw w.states-is i.3,
      )
    ]

pub settle-requires : goal.settle-requires
settle-requires c =
    let fits : TurnFits c.args.h c.args.keys c.in-Some.key c.loop-next.states c.loop-next.led c.loop-next.kept = between_fits _ _ _ _ _ _ c.requires.0 _ c.in-Some.is c.loop-next.invariant.0 in
    let all_taken : LinesTaken (member c.args.keys c.in-Some.key) c.args.h.directs c.loop-next.states c.args.h.nsources c.args.h.ndirects c.loop-q.states c.loop-q.took = taken_all _ _ _ _ _ _ _ _ c.loop-q.auto.q-end c.loop-q-test.false c.loop-q.invariant.0 in
    let directed_ready : AllReady c.loop-q.states c.args.h.nsources = turn_ready _ _ _ _ _ _ fits _ all_taken.states in
    directed_ready

pub returns-in_err-settle : goal.returns-in_err-settle
returns-in_err-settle c =
    let fits : TurnFits c.args.h c.args.keys c.in-Some.key c.loop-next.states c.loop-next.led c.loop-next.kept = between_fits _ _ _ _ _ _ c.requires.0 _ c.in-Some.is c.loop-next.invariant.0 in
    let all_taken : LinesTaken (member c.args.keys c.in-Some.key) c.args.h.directs c.loop-next.states c.args.h.nsources c.args.h.ndirects c.loop-q.states c.loop-q.took = taken_all _ _ _ _ _ _ _ _ c.loop-q.auto.q-end c.loop-q-test.false c.loop-q.invariant.0 in
    let worked : Worked c.args.h c.args.keys c.in-Some.key c.loop-next.states c.loop-q.states c.total_of-total.result c.loop-q.took = record { lines = all_taken.states; mwh = total_scheduled _ _ c.requires.2 c.args.keys c.in-Some.key _ c.total_of-total.ensures.0; taken = all_taken.sum } in
    let p = err_from_is_err_and c.from_residual.result c.from_residual.ensures.1 in
    rw (p.1, p.2) (turn_refused _ _ _ _ _ _ fits _ _ _ worked _ _ _ _ (sym c.in_err-settle.was ∙ c.settle.ensures.verdict))

pub keep_all-requires : goal.keep_all-requires
keep_all-requires c =
    let fits : TurnFits c.args.h c.args.keys c.in-Some.key c.loop-next.states c.loop-next.led c.loop-next.kept = between_fits _ _ _ _ _ _ c.requires.0 _ c.in-Some.is c.loop-next.invariant.0 in
    let lead_small : c.lead_of-lead.result < 32 = turn_within _ _ _ _ _ _ fits _ c.lead_of-lead.ensures in
    let all_taken : LinesTaken (member c.args.keys c.in-Some.key) c.args.h.directs c.loop-next.states c.args.h.nsources c.args.h.ndirects c.loop-q.states c.loop-q.took = taken_all _ _ _ _ _ _ _ _ c.loop-q.auto.q-end c.loop-q-test.false c.loop-q.invariant.0 in
    let directed_ready : AllReady c.loop-q.states c.args.h.nsources = turn_ready _ _ _ _ _ _ fits _ all_taken.states in
    let left_by_ladder : remainder c.in-Some.key.number c.args.h.nsources c.total_of-total.result c.loop-q.took c.loop-q.states ≡ accepted c.settle.new.states = accepted_outcome _ _ _ (sym c.in_ok-settle.was ∙ c.settle.ensures.verdict) c.settle.ensures.states in
    let ladder_ready : AllReady c.settle.new.states c.args.h.nsources = remainder_ready _ _ _ _ _ _ directed_ready left_by_ladder in
    (lead_small, directed_ready, ladder_ready)

pub line_up-requires-clause-all_ready : goal.line_up-requires-clause-all_ready
line_up-requires-clause-all_ready c =
    let fits : TurnFits c.args.h c.args.keys c.in-Some.key c.loop-next.states c.loop-next.led c.loop-next.kept = between_fits _ _ _ _ _ _ c.requires.0 _ c.in-Some.is c.loop-next.invariant.0 in
    let all_taken : LinesTaken (member c.args.keys c.in-Some.key) c.args.h.directs c.loop-next.states c.args.h.nsources c.args.h.ndirects c.loop-q.states c.loop-q.took = taken_all _ _ _ _ _ _ _ _ c.loop-q.auto.q-end c.loop-q-test.false c.loop-q.invariant.0 in
    let directed_ready : AllReady c.loop-q.states c.args.h.nsources = turn_ready _ _ _ _ _ _ fits _ all_taken.states in
    let left_by_ladder : remainder c.in-Some.key.number c.args.h.nsources c.total_of-total.result c.loop-q.took c.loop-q.states ≡ accepted c.settle.new.states = accepted_outcome _ _ _ (sym c.in_ok-settle.was ∙ c.settle.ensures.verdict) c.settle.ensures.states in
    let ladder_ready : AllReady c.settle.new.states c.args.h.nsources = remainder_ready _ _ _ _ _ _ directed_ready left_by_ladder in
    ladder_ready

pub offset_bounds-led-lead : goal.offset_bounds-led-lead
offset_bounds-led-lead c =
    let fits : TurnFits c.args.h c.args.keys c.in-Some.key c.loop-next.states c.loop-next.led c.loop-next.kept = between_fits _ _ _ _ _ _ c.requires.0 _ c.in-Some.is c.loop-next.invariant.0 in
    let lead_small : c.lead_of-lead.result < 32 = turn_within _ _ _ _ _ _ fits _ c.lead_of-lead.ensures in
    omega (arith, lead_small)

pub bounds-led-lead : goal.bounds-led-lead
bounds-led-lead c =
    let fits : TurnFits c.args.h c.args.keys c.in-Some.key c.loop-next.states c.loop-next.led c.loop-next.kept = between_fits _ _ _ _ _ _ c.requires.0 _ c.in-Some.is c.loop-next.invariant.0 in
    let lead_small : c.lead_of-lead.result < 32 = turn_within _ _ _ _ _ _ fits _ c.lead_of-lead.ensures in
    lead_small

pub next_after-next-requires-in-Some : goal.next_after-next-requires-in-Some
next_after-next-requires-in-Some c =
    let few_deliveries : c.args.h.ndeliveries ≤ 32 = (valid_given _ c.requires.0).deliveries.few in
    few_deliveries

pub loop-next-preserved : goal.loop-next-preserved
loop-next-preserved c =
    let fits : TurnFits c.args.h c.args.keys c.in-Some.key c.loop-next.states c.loop-next.led c.loop-next.kept = between_fits _ _ _ _ _ _ c.requires.0 _ c.in-Some.is c.loop-next.invariant.0 in
    let all_taken : LinesTaken (member c.args.keys c.in-Some.key) c.args.h.directs c.loop-next.states c.args.h.nsources c.args.h.ndirects c.loop-q.states c.loop-q.took = taken_all _ _ _ _ _ _ _ _ c.loop-q.auto.q-end c.loop-q-test.false c.loop-q.invariant.0 in
    let worked : Worked c.args.h c.args.keys c.in-Some.key c.loop-next.states c.loop-q.states c.total_of-total.result c.loop-q.took = record { lines = all_taken.states; mwh = total_scheduled _ _ c.requires.2 c.args.keys c.in-Some.key _ c.total_of-total.ensures.0; taken = all_taken.sum } in
    let directed_ready : AllReady c.loop-q.states c.args.h.nsources = turn_ready _ _ _ _ _ _ fits _ all_taken.states in
    let rested : Rested c.args.h c.args.keys c.in-Some.key c.loop-next.states c.loop-q.states c.total_of-total.result c.loop-q.took c.if-enough.states c.if-enough.step c.if-enough.down c.if-enough.room c.if-enough.above c.if-enough.head c.lead_of-lead.result c.loop-next.kept c.if-enough.kept =
    elim c.if-enough.branch [
      | then-enough+else-loop-i-test w ↦
          let rest : Rest c.in-Some.key.number c.args.h.nsources c.total_of-total.result c.loop-q.took c.loop-q.states c.take_first-enough.new.taken = first_rest c.loop-q.invariant.2 _ _ _ _ _ directed_ready c.distance-rest.ensures (rw w.if-enough.true at c.take_first-enough.ensures) in
          rw (w.states-is, w.down-is, w.room-is, w.above-is, w.head-is, w.step-is, w.kept-is) (record {
            left = rest.moved _ (shifted_all _ _ _ _ _ _ w.loop-i.auto.i-end w.loop-i-test.false w.loop-i.invariant.0);
            row = w.loop-i.invariant.1 _ _ c.loop-q.invariant.1;
            lines = w.loop-i.invariant.2;
            long = w.loop-i.invariant.3;
          })
      | else-enough+in_ok-settle w ↦
          let left_by_ladder : remainder c.in-Some.key.number c.args.h.nsources c.total_of-total.result c.loop-q.took c.loop-q.states ≡ accepted w.settle.new.states = accepted_outcome _ _ _ (sym w.in_ok-settle.was ∙ w.settle.ensures.verdict) w.settle.ensures.states in
          rw (w.states-is, w.down-is, w.room-is, w.above-is, w.head-is, w.step-is, w.kept-is) (record {
            left = left_by_ladder;
            row = w.keep_all.ensures _ _ c.loop-q.invariant.1;
            lines = w.line_up.ensures;
            long = remainder_long _ _ _ _ _ _ left_by_ladder ∙ c.loop-q.invariant.3;
          })
    ] in
    (between_next _ _ _ _ _ _ _ _ (turn_done _ _ _ _ _ _ fits _ _ _ worked _ rested.left _ _ c.lead_of-lead.ensures rested.row) fits.rest c.next_after-next-in-Some.ensures, rested.lines, rested.long)
