use Rattle.std.proofs.Common.{◌≡◌, take, rules, arith, true, false, MatchOption}
use Rattle.std.proofs.lemmas.Iterator.{YieldsList-from_slice, IsFirst-from_position}
use Rattle.rules.specs.Hour.{same_key}
use Rattle.members.specs.Leads.{Lead, lead_found}
use Rattle.members.proofs.lead_of.Goals as goal
use Rattle.members.proofs.lead_of.Goals.{After-position}

found : (c : After-position) → MatchOption c.position.result ⊥ (Lead c.args.keys.now c.args.n c.args.key)
found c = lead_found _ _ _ (omega (arith, c.told-keys, c.requires.0)) c.requires.1 _ (IsFirst-from_position _ _ _ (λ y. same_key y c.args.key ≡ true) (λ y. same_key y c.args.key ≡ false) c.position.ensures.ran (YieldsList-from_slice (take c.args.n c.args.keys.now) cc) (λ x q k. search rules) (λ x q k. search rules))

pub unwrap-requires : goal.unwrap-requires
unwrap-requires c = let h = found c in search rules

pub returns : goal.returns
returns c = let h = found (goal.at.returns c).After-position in rw c.unwrap.ensures at h
