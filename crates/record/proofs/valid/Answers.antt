-- Each loop tries the places of a class, with the tables of the entries before; a test that fails is enough.
use mathlib.Core.Path.{sym, ap, ◌∙◌}
use native.Mathlib.Omega.{arith}
use borrow.Author.Rules.{rules}
use Rattle.line_rules.specs.Tried.{counts_of, Few}
use Rattle.line_rules.specs.Totalled.{finished_by_lem}
use Rattle.record.specs.Loops.{all_to_end, length_mapped}
use Rattle.std.specs.Prelude.{is_ok}
use Rattle.record.specs.OwnTells.{few_from}
use Rattle.record.specs.Steps.{places_all, SourcesTo, sources_none, source_fails, sources_on, DeliveriesTo, deliveries_none, delivery_fails, deliveries_on, directs_none, direct_fails, directs_on}
use Rattle.record.specs.OwnIsValid.{fails_valid, ended_valid}
use Rattle.record.proofs.valid.Goals as goal

pub returns-then-not-few_entries : goal.returns-then-not-few_entries
returns-then-not-few_entries c =
    fails_valid c.args.h _ (λ p. p.few) (sym c.few_entries.ensures.tested ∙ c.if-not-few_entries.true)

pub returns-then-not-losses_in_range : goal.returns-then-not-losses_in_range
returns-then-not-losses_in_range c =
    fails_valid c.args.h _ (λ p. p.losses) (sym c.losses_in_range.ensures ∙ c.if-not-losses_in_range.true)

pub loop-i-init : goal.loop-i-init
loop-i-init c = (search rules, sources_none _)

pub returns-then-not-source_stands : goal.returns-then-not-source_stands
returns-then-not-source_stands c =
    fails_valid c.args.h _ (λ p. p.sources.all) (source_fails c.args.h _ _ _ _ _ c.loop-i.invariant.1 _ c.source_stands.ensures.value c.if-not-source_stands.true c.loop-i-test.true)

pub loop-i-preserved : goal.loop-i-preserved
loop-i-preserved c =
    let stands = c.source_stands.ensures in
    let sum = c.add_source-totals.ensures in
    (search rules, sources_on _ _ _ _ _ _ c.loop-i.invariant.1 _ stands.value c.if-not-source_stands.false _ _ _ _ stands.lo stands.hi stands.high sum.0 sum.1)

pub loop-j-init : goal.loop-j-init
loop-j-init c =
    let few : Few (counts_of c.args.h) = few_from _ (sym c.few_entries.ensures.tested ∙ c.if-not-few_entries.false) in
    let l = c.loop-i in
    let sources_told : SourcesTo c.args.h l.slo l.shi l.high l.totals 32 c.args.h.nsources = places_all (SourcesTo c.args.h l.slo l.shi l.high l.totals) _ _ l.invariant.1 few.sources l.invariant.0 c.loop-i-test.false in
    (search rules, deliveries_none _ _ sources_told.totals)

pub returns-then-not-delivery_stands : goal.returns-then-not-delivery_stands
returns-then-not-delivery_stands c =
    fails_valid c.args.h _ (λ p. p.deliveries.all) (delivery_fails c.args.h _ _ _ _ c.loop-j.invariant.1 _ c.delivery_stands.ensures.value c.if-not-delivery_stands.true c.loop-j-test.true)

pub loop-j-preserved : goal.loop-j-preserved
loop-j-preserved c =
    let stands = c.delivery_stands.ensures in
    let sum = c.add_delivery-totals.ensures in
    (search rules, deliveries_on _ _ _ _ _ c.loop-j.invariant.1 _ stands.value c.if-not-delivery_stands.false _ _ _ stands.lo stands.hi sum.0 sum.1)

pub loop-k-init : goal.loop-k-init
loop-k-init c = (search rules, directs_none _)

pub returns-then-not-direct_stands : goal.returns-then-not-direct_stands
returns-then-not-direct_stands c =
    let few : Few (counts_of c.args.h) = few_from _ (sym c.few_entries.ensures.tested ∙ c.if-not-few_entries.false) in
    let l = c.loop-i in
    let sources_told : SourcesTo c.args.h l.slo l.shi l.high l.totals 32 c.args.h.nsources = places_all (SourcesTo c.args.h l.slo l.shi l.high l.totals) _ _ l.invariant.1 few.sources l.invariant.0 c.loop-i-test.false in
    fails_valid c.args.h _ (λ p. p.directs.all) (direct_fails c.args.h _ _ _ _ sources_told.highs c.loop-k.invariant.1 _ c.direct_stands.ensures.value c.if-not-direct_stands.true c.loop-k-test.true)

pub loop-k-preserved : goal.loop-k-preserved
loop-k-preserved c =
    let few : Few (counts_of c.args.h) = few_from _ (sym c.few_entries.ensures.tested ∙ c.if-not-few_entries.false) in
    let l = c.loop-i in
    let sources_told : SourcesTo c.args.h l.slo l.shi l.high l.totals 32 c.args.h.nsources = places_all (SourcesTo c.args.h l.slo l.shi l.high l.totals) _ _ l.invariant.1 few.sources l.invariant.0 c.loop-i-test.false in
    let stands = c.direct_stands.ensures in
    (search rules, directs_on _ _ _ _ _ sources_told.highs c.loop-k.invariant.1 _ stands.value c.if-not-direct_stands.false _ _ stands.based stands.percents)

pub finish-requires : goal.finish-requires
finish-requires c =
    let few : Few (counts_of c.args.h) = few_from _ (sym c.few_entries.ensures.tested ∙ c.if-not-few_entries.false) in
    let m = c.loop-j in
    let deliveries_told : DeliveriesTo c.args.h m.tlo m.thi m.totals 32 c.args.h.ndeliveries = places_all (DeliveriesTo c.args.h m.tlo m.thi m.totals) _ _ m.invariant.1 few.deliveries m.invariant.0 c.loop-j-test.false in
    (few, omega (arith, deliveries_told.totals.most_delivered, few.deliveries))

pub returns : goal.returns
returns c =
    let few : Few (counts_of c.args.h) = few_from _ (sym c.few_entries.ensures.tested ∙ c.if-not-few_entries.false) in
    let l = c.loop-i in
    let sources_told : SourcesTo c.args.h l.slo l.shi l.high l.totals 32 c.args.h.nsources = places_all (SourcesTo c.args.h l.slo l.shi l.high l.totals) _ _ l.invariant.1 few.sources l.invariant.0 c.loop-i-test.false in
    let m = c.loop-j in
    let deliveries_told : DeliveriesTo c.args.h m.tlo m.thi m.totals 32 c.args.h.ndeliveries = places_all (DeliveriesTo c.args.h m.tlo m.thi m.totals) _ _ m.invariant.1 few.deliveries m.invariant.0 c.loop-j-test.false in
    ended_valid c.args.h _ (c.is_ok.ensures.value ∙ ap is_ok (c.finish.ensures ∙ finished_by_lem _ _ deliveries_told.totals))
    (λ done.
    record {
      few = sym c.few_entries.ensures.tested ∙ c.if-not-few_entries.false;
      losses = sym c.losses_in_range.ensures ∙ c.if-not-losses_in_range.false;
      sources = record { size = search (rules, length_mapped); all = sources_told.stand };
      deliveries = record { size = search (rules, length_mapped); all = deliveries_told.stand };
      directs = record { size = search (rules, length_mapped); all = all_to_end _ _ _ c.loop-k.invariant.0 c.loop-k-test.false c.loop-k.invariant.1.stand };
      done = done;
    })
