-- What `source_label` and `delivery_label` give is the label on the entry's own line: a D line's mention of it, with the same bytes, their contracts do not
-- allow.
use mathlib.Core.List.{List}
use mathlib.Core.Path.{◌≡◌, sym, ap, ◌∙◌}
use Prim.Native.Nat.{ℕ, ◌+◌}
use native.Mathlib.Omega.{arith}
use denote.Ref.{Bor}
use Rattle.rules.specs.Places.{source_start, delivery_start}
use Rattle.label_places.specs.MentionsStandElsewhere.{mentioning, unit_mention, delivery_mention, elsewhere}
use Rattle.barleyhood.proofs.source_label.Reads as source_label_call
use Rattle.barleyhood.proofs.delivery_label.Reads as delivery_label_call

-- a part that lies so far into a slice lies at one place in it
one_place : (block offset m n : ℕ) (at : ℕ × ℕ) → at ≡ (block, m + offset) → at ≡ (block, n + offset) → m ≡ n
one_place block offset m n at p q = let e : m + offset ≡ n + offset = ap (λ (at : ℕ × ℕ). at.1) (sym p ∙ q) in omega arith

pub source_label : (κ : _) (s r : Bor (List ℕ)) (x : _) → s.now ≡ mentioning → r.ref_ptr ≡ (s.ref_ptr.0, unit_mention + s.ref_ptr.1) → source_label_call.Post κ (s, (0, tt)) r x → ⊥
source_label κ s r x e at p =
    let k : unit_mention ≡ source_start s.now 0 = one_place s.ref_ptr.0 s.ref_ptr.1 unit_mention (source_start s.now 0) r.ref_ptr at p.1 in
    let z : ◌≡◌ {A = ℕ} unit_mention 48 = k ∙ ap (λ (d : List ℕ). source_start d 0) e ∙ elsewhere.unit_start in
    absurd (omega arith)

pub delivery_label : (κ : _) (s r : Bor (List ℕ)) (x : _) → s.now ≡ mentioning → r.ref_ptr ≡ (s.ref_ptr.0, delivery_mention + s.ref_ptr.1) → delivery_label_call.Post κ (s, (0, tt)) r x → ⊥
delivery_label κ s r x e at p =
    let k : delivery_mention ≡ delivery_start s.now 0 = one_place s.ref_ptr.0 s.ref_ptr.1 delivery_mention (delivery_start s.now 0) r.ref_ptr at p.1 in
    let z : ◌≡◌ {A = ℕ} delivery_mention 65 = k ∙ ap (λ (d : List ℕ). delivery_start d 0) e ∙ elsewhere.delivery_start_lem in
    absurd (omega arith)
