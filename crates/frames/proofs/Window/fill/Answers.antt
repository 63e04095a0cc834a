-- Reads one after another.
use Rattle.std.proofs.Common.{◌≡◌, ◌+◌, ◌≤◌, refl, take, drop, slice_range, subst, sym, ◌∙◌, arith, rules}
use Rattle.std.specs.Io.KnownBytes.{Consumes}
use Rattle.frames.specs.Filled.{front_less, filled_none, filled_more}
use Rattle.frames.proofs.Window.fill.Goals as goal

pub loop-self-init : goal.loop-self-init
loop-self-init g c =
    let self = c.args.self.now in
    record { stays = (refl, omega arith); front = refl; kept = (refl, refl); read = filled_none (g.I.Read.remaining c.args.input.now) self.have self.bytes.now }

pub loop-self-preserved : goal.loop-self-preserved
loop-self-preserved g c =
    let first = c.args.self.now.have in
    let old = c.loop-self.self in
    let new = c.more.new.self in
    let n = c.in_ok-map_err.field-0 in
    let came : new.have ≡ old.have + n = search rules in
    let read : Consumes (g.I.Read.remaining c.loop-self.input) (g.I.Read.remaining c.more.new.input) (take n (drop old.have new.bytes.now)) = search rules in
    let within : first ≤ old.have = omega arith in
    record {
      stays = search rules;
      front = front_less first old.have old.bytes.now new.bytes.now within c.more.ensures.front ∙ c.loop-self.invariant.front;
      kept = search rules;
      read =
          let given = g.I.Read.remaining c.args.input.now in
          let left = g.I.Read.remaining c.more.new.input in
          subst (λ have. Consumes given left (slice_range new.bytes.now first have)) (sym came) (filled_more given _ left first old.have n old.bytes.now new.bytes.now within c.more.ensures.front c.loop-self.invariant.read read);
    }
