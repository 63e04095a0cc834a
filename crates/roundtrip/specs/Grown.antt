-- A line that the reader takes is the next line of the hour after it.
use Rattle.std.specs.Prelude.{◌≡◌, refl, ℕ, ◌<◌, length}
use Rattle.std.proofs.Math.Path.{ap, sym}
use Rattle.std.proofs.Common.{subst, ◌∙◌, arith}
use mathlib.Core.List.{List, [], ◌∷◌, ◌++◌, append_assoc, append-nil}
use Rattle.rules.specs.Words as words
use Rattle.rules.specs.Words.{list_to}
use Rattle.rules.specs.Refusals.{accepted}
use Rattle.rules.specs.Sequences.{no_delivery}
use Rattle.rules.specs.Group.{no_direct}
use Rattle.rules.specs.Lines.{Line}
use Rattle.rules.specs.Record as entries
use Rattle.rules.specs.Record.{no_source, source_at, delivery_at, direct_at, started, with_source, with_delivery, with_direct, source_line, delivery_line, direct_line, body}
use Rattle.rules.specs.Reading as reading
use Rattle.rules.specs.Reading.{taken, feed}
use Rattle.rules.specs.declared.Source.{Source}
use Rattle.rules.specs.declared.Delivery.{Delivery}
use Rattle.rules.specs.declared.Direct.{Direct}
use Rattle.rules.specs.declared.Hour.{Hour}
use Rattle.laws.specs.Choices.{accepted_same, then_passed}
use Rattle.laws.specs.Lists.{list_to_set}
use Rattle.roundtrip.specs.Entries.{Entries, taken_entries}
use Rattle.roundtrip.specs.Taken.{Entry, source, delivery, direct, taken_passed}

pub started_body : (losses : ℕ) → body (started losses) ≡ []
unfolding entries.started entries.body words.list_to
started_body losses = refl

-- One entry more.

module _ (h : Hour) where
  body_source : (x : Source) → h.ndeliveries ≡ 0 → h.ndirects ≡ 0 → h.nsources < length h.sources → body (with_source h x) ≡ body h ++ (source_line x ∷ [])
  unfolding entries.body words.list_to
  body_source x z w lt = rw (z, w) (simp append-nil (list_to_set (λ x. source_line x ∷ []) h.sources no_source x h.nsources lt))

  body_delivery : (x : Delivery) → h.ndirects ≡ 0 → h.ndeliveries < length h.deliveries → body (with_delivery h x) ≡ body h ++ (delivery_line x ∷ [])
  unfolding entries.body words.list_to
  body_delivery x w lt =
      let a = list_to (λ i. source_line (source_at h i) ∷ []) h.nsources in
      rw w (simp append-nil (ap (λ l. a ++ l) (list_to_set (λ x. delivery_line x ∷ []) h.deliveries no_delivery x h.ndeliveries lt) ∙ sym (append_assoc a _ _)))

  body_direct : (x : Direct) → h.ndirects < length h.directs → body (with_direct h x) ≡ body h ++ (direct_line h x ∷ [])
  unfolding entries.body
  body_direct x lt =
      let a = list_to (λ i. source_line (source_at h i) ∷ []) h.nsources in
      let b = list_to (λ i. delivery_line (delivery_at h i) ∷ []) h.ndeliveries in
      let c = list_to (λ i. direct_line h (direct_at h i) ∷ []) h.ndirects in
      let n : List Line = direct_line h x ∷ [] in
      ap (λ l. a ++ (b ++ l)) (list_to_set (λ x. direct_line h x ∷ []) h.directs no_direct x h.ndirects lt)
      ∙ ap (λ l. a ++ l) (sym (append_assoc b c n)) ∙ sym (append_assoc a (b ++ c) n)

-- Lines in turn.

pub record Grown (h : Hour) (ls : List Line) (after : Hour) : Type 0 where
  pub lines : body after ≡ body h ++ ls
  pub losses : after.losses ≡ h.losses
  pub entries : Entries after

-- the lines that were, and the entry's own
entry_lines : (h : Hour) (l : Line) (after : Hour) → Entries h → Entry h l after → (body after ≡ body h ++ (l ∷ [])) × (after.losses ≡ h.losses)
entry_lines h l after g (source x e t) =
    rw (← t.is, ← e) (body_source h x (omega (arith, t.alone)) (omega (arith, t.alone)) (omega (arith, t.room, g.sources.size)), refl)
entry_lines h l after g (delivery x e t) = rw (← t.is, ← e) (body_delivery h x t.alone (omega (arith, t.room, g.deliveries.size)), refl)
entry_lines h l after g (direct x e t) = rw (← t.is, ← e) (body_direct h x (omega (arith, t.room, g.directs.size)), refl)

pub fed_grown : (ls : List Line) (h after : Hour) → Entries h → feed h ls ≡ accepted after → Grown h ls after
unfolding reading.feed
fed_grown [] h after g e = subst (Grown h []) (accepted_same h after e) (record { lines = sym (append-nil (body h)); losses = refl; entries = g })
fed_grown (l ∷ ls) h after g e =
    let a = then_passed (taken h l) (λ m. feed m ls) after e in
    let t = taken_passed h l a.mid a.first in
    let b = entry_lines h l a.mid g t.entry in
    let r = fed_grown ls a.mid after (taken_entries h l a.mid g t) a.second in
    record {
      lines = r.lines ∙ ap (λ x. x ++ ls) b.0 ∙ append_assoc (body h) (l ∷ []) ls;
      losses = r.losses ∙ b.1;
      entries = r.entries;
    }
