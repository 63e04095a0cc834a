-- What the contracts over the reader ask and promise, as src/ has them, are the facts that the proofs of scan and check_deck take.
use mathlib.Core.Path.{◌≡◌, refl, sym}
use seplogic.Ra.Ura.{Ura}
use mir.Syntax.{Dict}
use base.Logic.{SProp, ent, sep, fst∗, snd∗}
use prog.Memory.{Memory}
use prog.Routine.{Routine}
use types.Logic.{Logic}
use contract.BorrowLft.{◌⊑◌}
use contract.Monad.{Fun, fact, fact_i, fact_use}
use denote.RattleType.{RattleType}
use Rattle.std.specs.Prelude.{List, ℕ, Result, Ok, Err}
use Rattle.std.specs.Result.{result_and}
use Rattle.rules.specs.Answers.{verdict_of}
use Rattle.rules.specs.Refusals.{Outcome, accepted}
use Rattle.rules.specs.Record.{started}
use Rattle.rules.specs.declared.Hour.{Hour}
use Rattle.rules.specs.declared.Refusal.{Refusal}
use Rattle.laws.specs.Answers.{verdict_refused}
use Rattle.deck.specs.Answers.{Scanned}
use Rattle.deck.specs.Entries.{KeepsAll}
use Rattle.deck.specs.FirstLine.{head_step, head_moved, rows_after, Follows}
use Rattle.deck.specs.Rows.{scanned_refused, scanned_kept}
use Rattle.deck.specs.declared.Entries.{Ghosts}
use Rattle.deck.specs.declared.ScannedDeck.{ScannedDeck}
use Rattle.deck.specs.contracts.ScannedDeck.{the_row}
use Rattle.deck.specs.contracts.ScannedDeckEntries.TheImpl.{ghosts}
use Rattle.deck.specs.contracts.Reader.head as head_call
use Rattle.deck.specs.contracts.Reader.rows as rows_call

-- a verdict, with what was kept where it accepts the deck
scanned : (s : List ℕ) (o : Outcome Hour) (r : Result (Unit {0}) Refusal) (x : ScannedDeck) → r ≡ verdict_of o → ((h : Hour) → o ≡ accepted h → KeepsAll s h x) → Scanned s o (result_and r (Ok x))
scanned s o (Ok u) x e kept = scanned_kept s o x e kept
scanned s o (Err r) x e kept = scanned_refused s o r (verdict_refused o r (sym e))

module _ {M : Type 1} {𝓤 : Ura M} (𝓛 : Logic 𝓤) (mem : Memory → SProp 𝓤) (run : Routine → Fun 𝓤) where
  pub head_says : (κ : _) (a : _) (r : _) (x : _)
      → (head_call.clauses 𝓛 mem run κ a).ensures tt r x ≡ sep 𝓤 (fact 𝓤 (head_moved r x.0.now.at ≡ head_step a.0.now.deck.now a.0.now.at)) (fact 𝓤 (x.0.now.deck ≡ a.0.now.deck))
  head_says κ a r x = refl

  -- whatever type keeps the entries
  module _ (K : RattleType) (g : Ghosts K.Denot) (d : Dict) where
    pub rows_says : (κ : _) (a : _) (r : _) (x : _)
        → (rows_call.clauses K g d 𝓛 mem run κ a).ensures tt r x
        ≡ sep 𝓤 (fact 𝓤 (r ≡ verdict_of (rows_after a.0.deck.now (head_moved (Ok a.1.0) a.0.at))))
        (fact 𝓤 ((h : Hour) → rows_after a.0.deck.now (head_moved (Ok a.1.0) a.0.at) ≡ accepted h → g.keeps a.0.deck.now h x.1.1.0.now))
    rows_says κ a r x = refl

    -- the first fact is the bound that every type parameter has
    pub rows_asks : (κ : _) (a : _)
        → (rows_call.clauses K g d 𝓛 mem run κ a).requires tt
        ≡ sep 𝓤 (fact 𝓤 (κ.1.1.0 ⊑ K.lives)) (fact 𝓤 (Follows a.0.deck.now (head_moved (Ok a.1.0) a.0.at) × g.keeps a.0.deck.now (started a.1.0) a.1.1.0.now))
    rows_asks κ a = refl

  -- two facts, and what follows from them
  facts_give : (φ ψ θ : Type 0) → (φ → ψ → θ) → ent 𝓤 (sep 𝓤 (fact 𝓤 φ) (fact 𝓤 ψ)) (fact 𝓤 θ)
  facts_give φ ψ θ f =
      let two : SProp 𝓤 = sep 𝓤 (fact 𝓤 φ) (fact 𝓤 ψ) in
      fact_use 𝓤 {P = two} φ (fst∗ 𝓤 (fact 𝓤 φ) (fact 𝓤 ψ)) (λ p. fact_use 𝓤 {P = two} ψ (snd∗ 𝓤 (fact 𝓤 φ) (fact 𝓤 ψ)) (λ q. fact_i 𝓤 θ two (f p q)))

  -- of what scan keeps this is the deck's answer, with its places
  pub rows_scanned : (d : Dict) (κ : _) (a : _) (r : _) (x : _)
      → ent 𝓤 ((rows_call.clauses the_row ghosts d 𝓛 mem run κ a).ensures tt r x)
      (fact 𝓤 (Scanned a.0.deck.now (rows_after a.0.deck.now (head_moved (Ok a.1.0) a.0.at)) (result_and r (Ok x.1.1.0.now))))
  rows_scanned d κ a r x = facts_give _ _ _ (scanned a.0.deck.now (rows_after a.0.deck.now (head_moved (Ok a.1.0) a.0.at)) r x.1.1.0.now)
