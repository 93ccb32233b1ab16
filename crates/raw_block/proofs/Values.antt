-- The machine values of the pointer, of an owner without bytes and of the three together. Assumes `Logic`.
use mathlib.Core.Path.{◌≡◌, refl, ◌∙◌}
use mathlib.Core.List.{List, [], ◌∷◌, ◌++◌}
use lib.Dec.{T, lit<}
use seplogic.Ra.Ura.{Ura}
use mir.Syntax.{ty_ptr, ty_struct, tcons, tnil}
use mir.Val.{Val, vstruct, vcons, vnil, of_list, has_ty, WT}
use base.Logic.{ent, emp, sep}
use types.Logic.{Logic, sem}
use types.Kit.{‵, ◌$◌, ◌∵◌, !, qed, move, fjoin, fpack, feq_i, done}
use denote.RattleType.{RattleType, Valss}
use denote.RawPtr.{Ptr, RawPtr, block_ptr, null_ptr, ptr_val}
use denote.Shadow.{shadow, makes_shadow}
use denote.Steps.{nothing}
use denote.Struct.Struct.{Struct, within}
use denote.Struct.Declared as Declared
use denote.Struct.Tuple.{Tuple, tuple_type}

-- a struct of these fields; what it owns doesn't read its name
abbrev pub of_fields : List RattleType → RattleType
of_fields Rs = Struct (record { name = []; args = []; types = []; fields = Rs })

abbrev pub pointer_val : Ptr → Val
pointer_val p = vstruct (vcons (ptr_val p) vnil)

pub pointer_typed : (p : Ptr) → T (has_ty (ty_struct [] (tcons ty_ptr tnil)) (pointer_val p)) × WT (pointer_val p)
pointer_typed (block_ptr b o) = (tt, (tt, tt))
pointer_typed null_ptr = (tt, (record { fits = lit< tt }, tt))

abbrev pub owner_val : Val
owner_val = vstruct (vcons (vstruct vnil) vnil)

pub owner_told : (vs : List Val) → shadow ((of_fields (of_fields [] ∷ [])).own_val (tt, tt) vs) → vs ≡ owner_val ∷ []
owner_told vs s = s.1.0 ∙ (λ i. vstruct (of_list (s.1.1.0.1.0 i ++ [])) ∷ [])

module _ {M : Type 1} {𝓤 : Ura M} (𝓛 : Logic 𝓤) where
  pub pointer_made : (p : Ptr) → ent 𝓤 (emp 𝓤) (sem 𝓛 ((of_fields (RawPtr ∷ [])).own_val (p, tt) (pointer_val p ∷ [])))
  pointer_made p = makes_shadow 𝓛 ((of_fields (RawPtr ∷ [])).own_val (p, tt) (pointer_val p ∷ [])) (λ _. (tt, (tt, tt))) ((ptr_val p ∷ [], tt), (refl, (refl, tt)))

  pub owner_made : ent 𝓤 (emp 𝓤) (sem 𝓛 ((of_fields (of_fields [] ∷ [])).own_val (tt, tt) (owner_val ∷ [])))
  owner_made = makes_shadow 𝓛 ((of_fields (of_fields [] ∷ [])).own_val (tt, tt) (owner_val ∷ [])) (λ _. (tt, ((λ _. (tt, tt)), tt))) ((vstruct vnil ∷ [], tt), (refl, ((tt, (refl, tt)), tt)))

abbrev pub triple_val : Val → Val → Val → Val
triple_val u v w = vstruct (vcons u (vcons v (vcons w vnil)))

pub triple_made : {M : Type 1} {𝓤 : Ura M} (𝓛 : Logic 𝓤) (R S U : RattleType) (x : R.Denot) (y : S.Denot) (z : U.Denot) (u v w : Val)
    → ent 𝓤 (sep 𝓤 (sem 𝓛 (R.own_val x (u ∷ []))) (sep 𝓤 (sem 𝓛 (S.own_val y (v ∷ []))) (sem 𝓛 (U.own_val z (w ∷ []))))) (sem 𝓛 ((Tuple (R ∷ S ∷ U ∷ [])).own_val (x, y, z) (triple_val u v w ∷ [])))
triple_made 𝓛 R S U x y z u v w =
    qed 𝓛 (‵ (R.own_val x (u ∷ [])) ∷ ‵ (S.own_val y (v ∷ [])) ∷ ‵ (U.own_val z (w ∷ [])) ∷ []) ∵
    nothing ! $ move ! (3 ∷ 0 ∷ []) $ fjoin ! $ move ! (2 ∷ 0 ∷ []) $ fjoin ! $ move ! (1 ∷ 0 ∷ []) $ fjoin ! $
    feq_i ! (List Val) (triple_val u v w ∷ []) (triple_val u v w ∷ []) refl $ fjoin ! $
    fpack ! (Valss (R ∷ S ∷ U ∷ [])) (within (Declared.shape (tuple_type (R ∷ S ∷ U ∷ []))) (x, (y, (z, tt))) (triple_val u v w ∷ [])) (u ∷ [], (v ∷ [], (w ∷ [], tt))) $ done !
