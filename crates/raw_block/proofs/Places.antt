-- A place is taken out of the row and put back, a run of places is seen, and room for bytes is a row of places. Assumes `Logic`.
use mathlib.Core.Path.{◌≡◌, refl, sym, ap, subst, ◌∙◌}
use Prim.Native.Nat.{ℕ, zero, suc, ◌+◌, ◌<◌}
use native.Mathlib.Omega.{arith}
use mathlib.Core.List.{List, [], ◌∷◌, ◌++◌, map}
use lib.ListN.{length, take, drop, set, replicate, take-append-drop}
use seplogic.Ra.Ura.{Ura}
use base.Fraction.{full_share}
use mir.Syntax.{w8}
use mir.Val.{vint}
use base.Logic.{ent, sep, via, id⊢, mono_r, snd∗}
use base.Fml.{Lft, Fml, ftrue, fsep, fat, froom}
use types.Logic.{Logic, sem}
use types.Kit.{‵, ◌⊛◌, ◌$◌, ◌∵◌, !, qed, by, move, keep, use1, use2, split, frame, fsplit, fjoin, rewrite, done}
use denote.Builtin.{u8}
use denote.Memory.{part_at}
use denote.Plain.{uint_in, uint_out}
use denote.Slice.{elements_shared}
use Rattle.std.specs.Prelude.{Option, Some, None}
use Rattle.raw_block.specs.Ownership.{byte_ty, bytes_ty, place, places, place_lent, places_lent}

-- the places but for the i-th
abbrev pub others : ℕ → ℕ → List (Option ℕ) → ℕ → Fml
others b o [] i = ftrue
others b o (c ∷ cs) zero = places b (o + 1) cs
others b o (c ∷ cs) (suc i) = fsep (place b o c) (others b (o + 1) cs i)

module _ {M : Type 1} {𝓤 : Ura M} (𝓛 : Logic 𝓤) (b : ℕ) where
  open 𝓛 use {H}

  -- a byte is let go
  emptied : (o : ℕ) (c : Option ℕ) → ent 𝓤 (sem 𝓛 (place b o c)) (H.room byte_ty b o)
  emptied o (Some x) = via 𝓤 (H.at full_share byte_ty b o (vint w8 x)) (uint_out 𝓛 full_share w8 x b o) (𝓛.laws.at_room byte_ty b o (vint w8 x))
  emptied o None = id⊢ 𝓤 _

  pub place_out : (cs : List (Option ℕ)) (i o at : ℕ) → at ≡ i + o → i < length cs → ent 𝓤 (sem 𝓛 (places b o cs)) (sep 𝓤 (H.room byte_ty b at) (sem 𝓛 (others b o cs i)))
  place_out [] i o at e lt = absurd (omega arith)
  place_out (c ∷ cs) zero o at e lt = let here : o ≡ at = omega arith in
      qed 𝓛 (‵ (places b o (c ∷ cs)) ∷ []) ∵ fsplit ! $ use1 𝓛 (‵ (froom byte_ty b o)) (emptied o c) $ rewrite ! 0 (λ (k : ℕ). ‵ (froom byte_ty b k)) here refl $ done !
  place_out (c ∷ cs) (suc i) o at e lt =
      qed 𝓛 (‵ (places b o (c ∷ cs)) ∷ []) ∵ fsplit ! $ move ! (1 ∷ []) $
      use1 𝓛 (‵ (froom byte_ty b at) ⊛ ‵ (others b (o + 1) cs i)) (place_out cs i (o + 1) at (omega arith) (omega arith)) $ split ! $ move ! (2 ∷ 1 ∷ []) $ fjoin ! $ move ! (1 ∷ []) $ done !

  pub place_in : (cs : List (Option ℕ)) (i o at x : ℕ) → at ≡ i + o → i < length cs → ent 𝓤 (sep 𝓤 (H.at full_share byte_ty b at (vint w8 x)) (sem 𝓛 (others b o cs i))) (sem 𝓛 (places b o (set cs i (Some x))))
  place_in [] i o at x e lt = absurd (omega arith)
  place_in (c ∷ cs) zero o at x e lt = let here : at ≡ o = omega arith in
      qed 𝓛 (‵ (fat full_share byte_ty b at (vint w8 x)) ∷ ‵ (places b (o + 1) cs) ∷ []) ∵
      rewrite ! 0 (λ (k : ℕ). ‵ (fat full_share byte_ty b k (vint w8 x))) here refl $ use1 𝓛 (‵ (part_at u8 full_share x b o)) (uint_in 𝓛 full_share w8 x b o) $ fjoin ! $ done !
  place_in (c ∷ cs) (suc i) o at x e lt =
      qed 𝓛 (‵ (fat full_share byte_ty b at (vint w8 x)) ∷ ‵ (others b o (c ∷ cs) (suc i)) ∷ []) ∵ move ! (1 ∷ []) $ fsplit ! $ move ! (2 ∷ 1 ∷ []) $
      use2 𝓛 (‵ (places b (o + 1) (set cs i (Some x)))) (place_in cs i (o + 1) at x (omega arith) (omega arith)) $ move ! (1 ∷ 0 ∷ []) $ fjoin ! $ done !

  pub of_room : (n o : ℕ) → ent 𝓤 (H.room (bytes_ty n) b o) (sem 𝓛 (places b o (replicate n None)))
  of_room zero o = qed 𝓛 (‵ (froom (bytes_ty 0) b o) ∷ []) ∵ keep ! [] $ done !
  of_room (suc n) o = qed 𝓛 (‵ (froom (bytes_ty (suc n)) b o) ∷ []) ∵
      use1 𝓛 (‵ (place b o None) ⊛ ‵ (froom (bytes_ty n) b (o + 1))) (𝓛.laws.room_uncons byte_ty n b o) $ split ! $ frame ! $ by ! (of_room n (o + 1))

  pub to_room : (cs : List (Option ℕ)) (o : ℕ) → ent 𝓤 (sem 𝓛 (places b o cs)) (H.room (bytes_ty (length cs)) b o)
  to_room [] o = 𝓛.laws.room_nil byte_ty b o
  to_room (c ∷ cs) o = qed 𝓛 (‵ (place b o c) ∷ ‵ (places b (o + 1) cs) ∷ []) ∵
      use1 𝓛 (‵ (froom byte_ty b o)) (emptied o c) $ move ! (1 ∷ []) $ use1 𝓛 (‵ (froom (bytes_ty (length cs)) b (o + 1))) (to_room cs (o + 1)) $ move ! (1 ∷ []) $ by ! (𝓛.laws.room_cons byte_ty (length cs) b o)

  module _ (κ : Lft) where
    abbrev Seen : ℕ → List (Option ℕ) → Fml
    Seen o cs = places_lent b o cs κ

    seen_on : (cs : List (Option ℕ)) (i o at : ℕ) → at ≡ i + o → ent 𝓤 (sem 𝓛 (Seen o cs)) (sem 𝓛 (Seen at (drop i cs)))
    seen_on cs zero o at e = let here : o ≡ at = omega arith in subst (λ k. ent 𝓤 (sem 𝓛 (Seen o cs)) (sem 𝓛 (Seen k cs))) here (id⊢ 𝓤 _)
    seen_on [] (suc i) o at e = id⊢ 𝓤 _
    seen_on (c ∷ cs) (suc i) o at e = via 𝓤 (sem 𝓛 (Seen (o + 1) cs)) (snd∗ 𝓤 (sem 𝓛 (place_lent b o c κ)) (sem 𝓛 (Seen (o + 1) cs))) (seen_on cs i (o + 1) at (omega arith))

    seen_first : (xs : List ℕ) (rest : List (Option ℕ)) (o : ℕ) → ent 𝓤 (sem 𝓛 (Seen o (map Some xs ++ rest))) (sem 𝓛 (elements_shared u8 xs b o κ))
    seen_first [] rest o = qed 𝓛 (‵ (Seen o rest) ∷ []) ∵ keep ! [] $ done !
    seen_first (x ∷ xs) rest o = mono_r 𝓤 (sem 𝓛 (place_lent b o (Some x) κ)) (seen_first xs rest (o + 1))

    pub seen_run : (cs : List (Option ℕ)) (i len o : ℕ) (xs : List ℕ) → take len (drop i cs) ≡ map Some xs → ent 𝓤 (sem 𝓛 (Seen o cs)) (sem 𝓛 (elements_shared u8 xs b (i + o) κ))
    seen_run cs i len o xs e = qed 𝓛 (‵ (Seen o cs) ∷ []) ∵ use1 𝓛 (‵ (Seen (i + o) (drop i cs))) (seen_on cs i o (i + o) refl) $
        rewrite ! 0 (λ (l : List (Option ℕ)). ‵ (Seen (i + o) l)) (sym (take-append-drop len (drop i cs)) ∙ ap (λ l. l ++ drop len (drop i cs)) e) refl $ by ! (seen_first xs (drop len (drop i cs)) (i + o))
