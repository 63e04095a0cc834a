use Rattle.std.proofs.Common.{refl, sym, subst, ap, ◌∙◌, arith}
use Rattle.std.specs.Prelude.{ℕ, List, Err}
use Rattle.std.specs.Borrow.{Bor}
use Rattle.rules.specs.Answers.{verdict_of}
use Rattle.rules.specs.declared.Refusal.TheVariants.{Form}
use Rattle.line_rules.specs.declared.Counts.{Counts}
use Rattle.deck.specs.Rows.{rows_started, direct_refuses, direct_takes, delivery_refuses, delivery_takes, source_refuses, source_takes, next_source, next_delivery, rows_direct, rows_delivery, rows_source, rows_kept, refused_kept, reads_ended, reads_whole}
use Rattle.deck.proofs.Asked.{was_passed}
use Rattle.deck.proofs.Reader.rows.Goals as goal

pub loop-self-init : goal.loop-self-init
loop-self-init g c =
    record { deck = refl; rows = rows_started g.K.Entries.keeps c.args.self.deck.now c.args.losses c.args.self.at c.args.kept.now c.requires.0 c.requires.1 }

pub returns-in_err-x-in-68-clause-verdict : goal.returns-in_err-x-in-68-clause-verdict
returns-in_err-x-in-68-clause-verdict g c =
    was_passed _ c.from_residual.ensures.1 ∙ sym (ap verdict_of (direct_refuses c.loop-self.invariant.rows _ c.in_err-x-in-68.ensures.step c.in-68.is))

pub returns-in_err-x-in-68-clause-kept : goal.returns-in_err-x-in-68-clause-kept
returns-in_err-x-in-68-clause-kept g c h = refused_kept _ _ (direct_refuses c.loop-self.invariant.rows _ c.in_err-x-in-68.ensures.step c.in-68.is) h

pub push_direct-requires : goal.push_direct-requires
push_direct-requires g c =
    let k = direct_takes c.loop-self.invariant.rows _ c.in_ok-x-in-68.ensures.step c.in-68.is in
    omega (arith, k.room, ap (λ (n : Counts). n.directs) c.loop-self.invariant.rows.counts)

pub loop-self-smaller-in-68 : goal.loop-self-smaller-in-68
loop-self-smaller-in-68 g c =
    let k = direct_takes c.loop-self.invariant.rows _ c.in_ok-x-in-68.ensures.step c.in-68.is in
    omega (arith, k.further, c.loop-self-test.true)

pub loop-self-preserved-in-68 : goal.loop-self-preserved-in-68
loop-self-preserved-in-68 g c =
    let w = c.loop-self.invariant.rows in
    let k = direct_takes c.loop-self.invariant.rows _ c.in_ok-x-in-68.ensures.step c.in-68.is in
    record {
      deck = c.loop-self.invariant.deck;
      rows = rows_direct w _ k _ _ (c.in_ok-x-in-68.ensures.based, c.in_ok-x-in-68.ensures.percents) _
          (c.push_direct.ensures _ w.hour (ap (λ (n : Counts). n.directs) w.counts) w.entries);
    }

pub returns-in_err-x-in-84-clause-verdict : goal.returns-in_err-x-in-84-clause-verdict
returns-in_err-x-in-84-clause-verdict g c =
    was_passed _ c.from_residual-in_err-x-in-84.ensures.1 ∙ sym (ap verdict_of (delivery_refuses c.loop-self.invariant.rows _ c.in_err-x-in-84.ensures.step c.in-84.is))

pub returns-in_err-x-in-84-clause-kept : goal.returns-in_err-x-in-84-clause-kept
returns-in_err-x-in-84-clause-kept g c h = refused_kept _ _ (delivery_refuses c.loop-self.invariant.rows _ c.in_err-x-in-84.ensures.step c.in-84.is) h

pub push_delivery-requires : goal.push_delivery-requires
push_delivery-requires g c =
    let k = delivery_takes c.loop-self.invariant.rows _ c.in_ok-x-in-84.ensures.step c.in-84.is in
    omega (arith, k.room, ap (λ (n : Counts). n.deliveries) c.loop-self.invariant.rows.counts)

pub loop-self-smaller-in-84 : goal.loop-self-smaller-in-84
loop-self-smaller-in-84 g c =
    let k = delivery_takes c.loop-self.invariant.rows _ c.in_ok-x-in-84.ensures.step c.in-84.is in
    omega (arith, k.further, c.loop-self-test.true)

pub loop-self-preserved-in-84 : goal.loop-self-preserved-in-84
loop-self-preserved-in-84 g c =
    let w = c.loop-self.invariant.rows in
    let k = delivery_takes c.loop-self.invariant.rows _ c.in_ok-x-in-84.ensures.step c.in-84.is in
    record {
      deck = c.loop-self.invariant.deck;
      rows = rows_delivery w _ k _ _ (let e = c.in_ok-x-in-84.ensures in (e.most, (e.lo, e.hi))) _ (c.push_delivery.ensures _ w.hour (next_delivery w _ k) w.entries);
    }

pub returns-in-69-clause-verdict : goal.returns-in-69-clause-verdict
returns-in-69-clause-verdict g c =
    let w = c.loop-self.invariant.rows in
    (reads_whole w.reads w.counts c.in-69.is _ w.losses_are _ c.end_at.ensures).verdict

pub returns-in-69-clause-kept : goal.returns-in-69-clause-kept
returns-in-69-clause-kept g c h is =
    let w = c.loop-self.invariant.rows in
    subst (λ (d : Bor (List ℕ)). g.K.Entries.keeps d.now h c.loop-self.kept) c.loop-self.invariant.deck
    (rows_kept w _ (reads_whole w.reads w.counts c.in-69.is _ w.losses_are _ c.end_at.ensures) h is)

pub returns-in_err-x-in_default-clause-verdict : goal.returns-in_err-x-in_default-clause-verdict
returns-in_err-x-in_default-clause-verdict g c =
    was_passed _ c.from_residual-in_err-x-in_default.ensures.1 ∙ sym (ap verdict_of (source_refuses c.loop-self.invariant.rows (λ e. omega arith) (λ e. omega arith) (λ e. omega arith) _ c.in_err-x-in_default.ensures.step))

pub returns-in_err-x-in_default-clause-kept : goal.returns-in_err-x-in_default-clause-kept
returns-in_err-x-in_default-clause-kept g c h = refused_kept _ _ (source_refuses c.loop-self.invariant.rows (λ e. omega arith) (λ e. omega arith) (λ e. omega arith) _ c.in_err-x-in_default.ensures.step) h

pub push_source-requires : goal.push_source-requires
push_source-requires g c =
    let k = source_takes c.loop-self.invariant.rows (λ e. omega arith) (λ e. omega arith) (λ e. omega arith) _ c.in_ok-x-in_default.ensures.step in
    omega (arith, k.room, ap (λ (n : Counts). n.sources) c.loop-self.invariant.rows.counts)

pub loop-self-smaller : goal.loop-self-smaller
loop-self-smaller g c =
    let k = source_takes c.loop-self.invariant.rows (λ e. omega arith) (λ e. omega arith) (λ e. omega arith) _ c.in_ok-x-in_default.ensures.step in
    omega (arith, k.further, c.loop-self-test.true)

pub loop-self-preserved : goal.loop-self-preserved
loop-self-preserved g c =
    let w = c.loop-self.invariant.rows in
    let k = source_takes c.loop-self.invariant.rows (λ e. omega arith) (λ e. omega arith) (λ e. omega arith) _ c.in_ok-x-in_default.ensures.step in
    record {
      deck = c.loop-self.invariant.deck;
      rows = rows_source w _ k _ _ _ (let e = c.in_ok-x-in_default.ensures in (e.most, (e.lo, (e.hi, e.high)))) _ (c.push_source.ensures _ w.hour (next_source w _ k) w.entries);
    }

pub returns-clause-verdict : goal.returns-clause-verdict
returns-clause-verdict g c =
    let w = c.loop-self.invariant.rows in
    ap (λ n. Err (Form n)) c.next_line.ensures ∙ sym (ap verdict_of (reads_ended w.reads w.counts c.loop-self-test.false))

pub returns-clause-kept : goal.returns-clause-kept
returns-clause-kept g c h =
    let w = c.loop-self.invariant.rows in
    refused_kept _ _ (reads_ended w.reads w.counts c.loop-self-test.false) h
