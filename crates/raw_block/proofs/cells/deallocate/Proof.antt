-- `deallocate` forgets the bytes: the places are memory again, and the allocator takes it with the leave to free it. Assumes `Logic`.
use Rattle.raw_block.proofs.Steps.{◌≡◌, ℕ, ◌^◌, ◌<◌, ◌≤◌, List, [], ◌∷◌, ◌++◌, length, refl, ap, sym, subst, ◌∙◌, lit<, w64, arith, proved_at, leaves, after, SProp, never, id⊢, Lft, Share, ftrue, flft, Ty, Fn, Args, a_type, dcons, dnil, Val, vint, vptr, vunit, Env, WpFn, fact, tables, ‵, raw, ◌⊛◌, prop, at_ret, later, given, await, learn, ◌$◌, ◌∵◌, !, qed, by, move, drop, use1, split, join, fsplit, fjoin, feq_i, rewrite, regoal, whole, sub, enter, of_opd, lit, unit_lit, stop, fld, first, blocks, exec, returns, and_then, no_more, alloc_all, pass_all, free_all, look_at, get, get_in, sets, lands_last, env, usize, RattleType, owns, Ptr, block_ptr, in_a_block, RefOf, plain, types_at, nothing, heard, alive, Stays, walk_of, stay_dropped, Goes-dropped}
use lib.Dec.{T}
use mir.MapTy.{inst_fn}
use mir.Syntax.{ty_unit}
use mir.Val.{has_ty, WT}
use types.Kit.{group}
use base.Fml.{froom}
use prog.Capped.{capped_is}
use prog.Memory.{capped, size}
use contract.BorrowLft.{◌⊑◌, ⊑_trans}
use denote.Param.{param, bounded}
use denote.Triple.Call.{calls_at_last}
use denote.Triple.Table.{framed}
use Rattle.std.proofs.alloc.Calls.{Al, seen, Goes-blank, Gives, at_gives, Gives-goes, Gives-Gives}
use Rattle.raw_block.specs.Ownership.{bytes_ty, cells_own, deed_owns}
use Rattle.raw_block.proofs.Places.{to_room}
use Rattle.raw_block.proofs.Values.{pointer_val, owner_val, owner_told}
use Rattle.raw_block.proofs.cells.Pointer.TheLaws.{lowers as B}
use Rattle.raw_block.specs.contracts.cells.Cells.{the_row as Cr}
use Rattle.raw_block.specs.contracts.cells.Pointer.{the_row as Bs}
use Rattle.raw_block.specs.contracts.cells.Deed as D
use Rattle.raw_block.specs.contracts.cells.deallocate as f
use Rattle.raw_block.proofs.cells.deallocate.Statement.{statement}
use Rattle.raw_block.proofs.cells.deallocate.Code as code

pub deallocate_spec : {M : Type 1} → statement M
deallocate_spec 𝓤 𝓛 𝓜 𝓡 wired A L g d dd met md =
    let H = 𝓛.H in let E = f.ended A g d dd in let c = f.clauses A g d dd 𝓛 𝓜.mem 𝓡.returns in
    let args : Args = bounded (a_type ∷ []) (A, tt) (dcons d (dcons dd dnil)) in let fn : Fn = inst_fn args code.function in
    let stayed : Stays E.signature.params E.kept = (stay_dropped _ _, (stay_dropped _ _, (stay_dropped _ _, (stay_dropped _ _, (stay_dropped _ _, tt))))) in
    let C = (tables 𝓤 H 𝓜 𝓡 𝓡.env).C in let Λ = (tables 𝓤 H 𝓜 𝓡 𝓡.env).Λ in
    let Z : RattleType = param 0 A in let Y : Al = record { row = A; laws = L; g = g; d = d; drops = dd } in let Dd : RattleType = D.the_row Z g in
    proved_at 𝓛 E stayed c 𝓜 𝓡 (Goes-dropped 𝓛 2 (RefOf (0 ∷ []) tt (plain (λ _. Z)) (λ _. tt)) E.kept.0 (λ κs x w. refl), (Goes-dropped 𝓛 2 (plain (λ _. Bs)) E.kept.1.0 (λ κs x w. refl), (Goes-dropped 𝓛 2 (plain (λ _. usize)) E.kept.1.1.0 (λ κs x w. refl), (Goes-blank 𝓛 2 (plain (λ _. Cr)) E.kept.1.1.1.0 (λ κs x w. tt), (Goes-blank 𝓛 2 (plain (λ _. Dd)) E.kept.1.1.1.1.0 (λ κs x w. tt), tt)))))
    (f.Key.name args) fn (code.unfolded 𝓤 H 𝓜 𝓡 wired (A, tt) d dd) (λ z are.
    let Post : Val → SProp 𝓤 = (walk_of 𝓛 E stayed c).post z in
    let κs = z.0.0 in let qs = z.0.1 in let a = z.0.3 in let vss = z.0.4 in let κ : Lft = κs.0 in let q : Share = qs.0 in
    let h = a.0.now in let lies = a.0.ref_ptr in let pointer = a.1.0 in let n = a.1.1.0 in let cells = a.1.1.1.0 in let deed = a.1.1.1.1.0 in let τ : Ty = bytes_ty n in
    let Asked : Type 0 = (n ≤ 65536) × (cells.at ≡ pointer.ptr) × (length cells.slots ≡ n) × (deed.at ≡ pointer.ptr) × (deed.len ≡ n) × (deed.alloc ≡ h) in
    qed 𝓛 ((raw (alive 𝓛 E.signature κs qs) ⊛ ‵ (owns (types_at E.signature.params κs) a vss)) ∷ (raw (fact 𝓤 (κs.1.0 ⊑ A.lives)) ⊛ raw (fact 𝓤 Asked)) ∷ []) ∵
    move ! (1 ∷ []) $ split ! $ heard ! (κs.1.0 ⊑ A.lives) (λ le. heard ! Asked (λ asked. split ! $ move ! (1 ∷ []) $
    let bytes : n < 2 ^ 64 = omega (arith, asked.0) in
    let sized : capped (size τ) ≡ n = capped_is (size τ) (omega (arith, asked.0)) ∙ omega arith in
    -- the handle; the pointer; the length; the places; the right to free them
    fsplit ! $ fsplit ! $ drop ! $ move ! (1 ∷ []) $ fsplit ! $ drop ! $ fsplit ! $ drop ! $ fsplit ! $ fsplit ! $ drop ! $ move ! (1 ∷ []) $ fsplit ! $ fsplit ! $ drop ! $ move ! (1 ∷ []) $ drop ! $
    -- [the right; the places; the handle; the tokens]
    move ! (1 ∷ []) $ rewrite ! 0 (λ (p : Ptr). ‵ (cells_own p cells.slots)) asked.1 refl $ in_a_block ! pointer.ptr (λ p. cells_own p cells.slots) (id⊢ 𝓤 (never 𝓤)) (λ b o e.
    use1 𝓛 (‵ (froom (bytes_ty (length cells.slots)) b o)) (to_room 𝓛 b cells.slots o) $ rewrite ! 0 (λ (k : ℕ). ‵ (froom (bytes_ty k) b o)) asked.2 refl $
    rewrite ! 1 (λ (u : A.Denot × Ptr × ℕ). ‵ (deed_owns (g.dealloc_token u.0) u.1 u.2)) (λ i. (asked.5 i, (asked.3 ∙ e) i, asked.4 i)) refl $
    move ! (2 ∷ []) $ use1 𝓛 (‵ (seen Y κ lies h)) (id⊢ 𝓤 _) $ move ! (3 ∷ []) $ use1 𝓛 (‵ (flft κ q) ⊛ ‵ (flft κs.1.0 qs.1.0) ⊛ ‵ ftrue) (id⊢ 𝓤 _) $ split ! $ move ! (3 ∷ 4 ∷ 2 ∷ 0 ∷ []) $
    let y = at_gives Y 𝓛 𝓜.mem 𝓡.returns κ q lies h b o n 1 τ in
    regoal ! (λ (us : List Val). prop (WpFn 𝓤 H C Λ fn us Post)) (λ i. are.0.0 i ++ ((B.val_is pointer vss.1.0 are.1.0 ∙ ap (λ (p : Ptr). pointer_val p ∷ []) e) i ++ (are.1.1.0.0 i ++ (owner_told vss.1.1.1.0 are.1.1.1.0.0 i ++ (owner_told vss.1.1.1.1.0 are.1.1.1.1.0.0 i ++ []))))) refl $
    enter ! C Λ fn (vptr lies.0 lies.1 ∷ pointer_val (block_ptr b o) ∷ vint w64 n ∷ owner_val ∷ owner_val ∷ []) Post $
    alloc_all ! (λ l. pass_all ! refl ((tt, tt), ((tt, (tt, tt)), ((tt, record { fits = bytes }), ((tt, (tt, tt)), ((tt, (tt, tt)), tt))))) $ let En : Env 𝓤 H = env fn.locals l in
    first ! $ blocks ! $ group ! 4 $
    use1 𝓛 (raw ((Gives Y 𝓛 𝓜.mem 𝓡.returns).pre y)) (Gives-goes Y 𝓛 𝓜.mem 𝓡.returns κ q lies h (⊑_trans κ κs.1.0 A.lives z.0.2.0 le) b o n 1 τ sized refl bytes (lit< tt)) $
    calls_at_last ! (framed 𝓤 H 𝓜 (tables 𝓤 H 𝓜 𝓡 𝓡.env)) (Gives Y 𝓛 𝓜.mem 𝓡.returns) (met.deallocate dd) y (and_then ! (get ! refl) (and_then ! (get_in ! (fld ! refl (stop !)) (sub ! 0 refl (whole !))) (and_then ! (get ! refl) (and_then ! (lit ! tt) (no_more !))))) (λ v.
    use1 𝓛 (later (given (v ≡ vunit) (‵ (flft κ q)))) (Gives-Gives Y 𝓛 𝓜.mem 𝓡.returns κ q lies h b o n 1 τ v) $ await ! tt $ learn ! (λ gone. join ! $
    lands_last ! refl (subst (λ (u : Val). T (has_ty ty_unit u) × WT u) (sym gone) (tt, tt)) $ exec ! C Λ En (after 1 fn.body) (at_ret En Post) $ sets ! (of_opd ! (unit_lit !)) refl (tt, tt) $
    returns ! (look_at ! 0 refl) $ free_all ! refl $ feq_i ! (List Val) (vunit ∷ []) (vunit ∷ []) refl $ nothing ! $
    nothing ! $ nothing ! $ fjoin ! $ nothing ! $ fjoin ! $ nothing ! $ fjoin ! $ nothing ! $ fjoin ! $ nothing ! $ fjoin ! $ move ! (3 ∷ 0 ∷ 2 ∷ 1 ∷ []) $
    by ! (leaves 𝓛 E stayed c z vunit tt (tt, (tt, (tt, (tt, (tt, tt))))) (tt, (tt, (tt, (tt, (tt, tt)))))))))))))
