use Rattle.std.proofs.Common.{◌≡◌, ℕ, ◌≤◌, List, map, length, sym, ◌∙◌, arith, ext_get_or, rules}
use lib.ListN.{length-map, get_or-map}
use Rattle.groups.specs.StatesOpened.{Opened, opened_none}
use Rattle.rules.specs.Group.{no_running, opened}
use Rattle.rules.specs.Record.{no_source}
use Rattle.rules.specs.declared.Running.{Running}
use Rattle.rules.specs.declared.Source.{Source}
use Rattle.trials.proofs.settling.open_all.Goals as goal

all-opened : (xs : List Source) (ss : List Running) (n : ℕ) → length xs ≡ 32 → 32 ≤ n → Opened xs n ss → ss ≡ map (λ s. opened s.plant) xs
all-opened xs ss n k l o =
    ext_get_or no_running ss (map (λ (s : Source). opened s.plant) xs) (o.long ∙ sym k ∙ sym (length-map xs (λ (s : Source). opened s.plant)))
    (λ i m. o.at i (omega (arith, o.long)) ∙ sym (get_or-map (λ (s : Source). opened s.plant) xs i no_source))

pub loop-i-init : goal.loop-i-init
loop-i-init c = rw c.blank_states-states.ensures (opened_none _)

pub returns : goal.returns
returns c = all-opened _ _ _ (search rules) c.loop-i-test.false c.loop-i.invariant
