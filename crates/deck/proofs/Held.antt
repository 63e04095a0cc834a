-- The reader's type in a walk, over a signature's one lifetime, and what is known of a reader there.
use mathlib.Core.List.{List, [], ◌∷◌}
use Prim.Native.Nat.{ℕ}
use lib.Dec.{T as Holds}
use lib.ListN.{length}
use seplogic.Ra.Ura.{Ura}
use mir.Syntax.{named}
use mir.Val.{Val, WT, has_ty}
use base.Logic.{ent, sep}
use types.Logic.{Logic, sem}
use contract.Lifetimes.{Lfts}
use denote.RattleType.{RattleType}
use denote.Laws.{Is}
use denote.Ref.{Bor}
use denote.Signature.{named_lft}
use denote.Slice.{slice_val}
use denote.Struct.Declared.{Declared}
use denote.Struct.Laws as LL
use denote.Struct.Values.{Values}
use Rattle.deck.specs.declared.Reader.{Reader}
use Rattle.deck.specs.contracts.Reader as T
use Rattle.deck.proofs.Reader.TheLaws as T'

abbrev pub Row : Lfts 1 → RattleType
Row κs = T.the_row (named_lft 1 0 tt κs)

abbrev pub Form : Lfts 1 → Declared
Form κs = T.the_type (named_lft 1 0 tt κs)

abbrev pub laws : (κs : Lfts 1) → LL.Laws (Form κs)
laws κs = T'.the_laws (named_lft 1 0 tt κs)

abbrev pub fields : (κs : Lfts 1) → Reader → Values (Form κs).parts
fields κs d = (d.deck, (d.at, tt))

-- the machine values of a reader and of a slice
abbrev pub machine : Reader → Val
machine d = T'.lowered d

abbrev pub wide : Bor (List ℕ) → Val
wide s = slice_val s.ref_ptr (length s.now)

module _ {M : Type 1} {𝓤 : Ura M} (𝓛 : Logic 𝓤) (κs : Lfts 1) where
  -- a reader is Copy: what it owns is had twice
  pub twice : (d : Reader) (vs : List Val) → ent 𝓤 (sem 𝓛 ((Row κs).own_val d vs)) (sep 𝓤 (sem 𝓛 ((Row κs).own_val d vs)) (sem 𝓛 ((Row κs).own_val d vs)))
  twice = (LL.copy (Form κs) (T'.the_copy (named_lft 1 0 tt κs)) 𝓛).twice

  pub typed : (d : Reader) → Is (Row κs) d (machine d ∷ []) → Holds (has_ty (T'.mir (named 0)) (machine d)) × WT (machine d)
  typed d is = ((LL.lawful (Form κs) (laws κs) 𝓛).typed d (machine d ∷ []) is).0
