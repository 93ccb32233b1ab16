-- `write` takes one place out of the row, fills it and puts it back. Assumes `Logic`.
use Rattle.raw_block.proofs.Steps.{◌≡◌, ◌+◌, ◌<◌, ◌≤◌, [], ◌∷◌, Some, length, refl, sym, ◌∙◌, w8, w64, proved, after, full_share, never, id⊢, ftrue, fat, flft, named, vunit, fact, tables, ‵, raw, ◌⊛◌, at_ret, ◌$◌, ◌∵◌, !, qed, done, move, keep, use1, use2, split, join, fsplit, fsplit3, fjoin, fjoin3, feq_i, rewrite, suffices, frame, whole, sub, enter, of_opd, unit_lit, bin, init, stop, fld, first, blocks, exec, returns, assigns_last, alloc_all, pass_all, free_all, look_at, get, get_in, through, sets, take_at, give_at, env, u8, usize, uint_vals, uint_Tells, layout, owns, Ptr, in_a_block, mut_vals, mut_Tells, plain, types_at, nothing, opens, closes, heard, Stays, walk_of, says, stay_dropped, Goes-dropped, stay_ref, Goes-ref, ends_at}
use lib.ListN.{set}
use base.Fml.{froom}
use Rattle.raw_block.specs.Ownership.{byte_ty, places, cells_own}
use Rattle.raw_block.proofs.Places.{others, place_out, place_in}
use Rattle.raw_block.proofs.Values.{pointer_val, pointer_typed}
use Rattle.raw_block.proofs.cells.Pointer.TheLaws.{lowers as B}
use Rattle.raw_block.specs.contracts.cells.Cells.{the_row as Cr}
use Rattle.raw_block.specs.contracts.cells.Pointer.{the_row as Bs}
use Rattle.raw_block.specs.contracts.cells.Cells.write as f
use Rattle.raw_block.proofs.cells.Cells.write.Statement.{statement}
use Rattle.raw_block.proofs.cells.Cells.write.Code as code

abbrev stayed : Stays f.ended.signature.params f.ended.kept
stayed = (stay_ref (0 ∷ []) tt (plain (λ _. Cr)), (stay_dropped _ _, (stay_dropped _ _, (stay_dropped _ _, tt))))

pub write_spec : {M : Type 1} → statement M
write_spec 𝓤 𝓛 𝓜 𝓡 wired =
    let c = f.clauses 𝓛 𝓜.mem 𝓡.returns in let W = walk_of 𝓛 f.ended stayed c in let 𝓣 = tables 𝓤 𝓛.H 𝓜 𝓡 𝓡.env in
    proved 𝓛 f.ended stayed c 𝓜 𝓡
    (Goes-ref 𝓛 1 0 tt (plain (λ _. Cr)), (Goes-dropped 𝓛 1 (plain (λ _. Bs)) f.ended.kept.1.0 (λ κs x w. refl), (Goes-dropped 𝓛 1 (plain (λ _. usize)) f.ended.kept.1.1.0 (λ κs x w. refl), (Goes-dropped 𝓛 1 (plain (λ _. u8)) f.ended.kept.1.1.1.0 (λ κs x w. refl), tt))))
    f.Key.name code.function (code.unfolded 𝓤 𝓛.H 𝓜 𝓡 wired)
    (λ κs. (mut_vals, ((λ h. B.lowered h ∷ []), (uint_vals w64, (uint_vals w8, tt))))) (λ κs. (mut_Tells (named 0) κs.0 Cr, (B.val_is, (uint_Tells w64, (uint_Tells w8, tt))))) (λ κs qs bounds a _ are.
    let sb = a.0.ref_ptr.0 in let so = a.0.ref_ptr.1 in let h = a.0.now in let pointer = a.1.0 in let index = a.1.1.0 in let byte = a.1.1.1.0 in let vs = mut_vals a.0 in
    let y : W.Ghost = ((κs, qs, bounds, a, (vs, (B.lowered pointer ∷ [], (uint_vals w64 index, (uint_vals w8 byte, tt))))), tt) in
    let Asked : Type 0 = (pointer.ptr ≡ h.at) × (length h.slots ≤ 65536) × (index < length h.slots) in
    let new : Cr.Denot = record { mark = h.mark; at = h.at; slots = set h.slots index (Some byte) } in
    qed 𝓛 (((‵ (flft κs.0 qs.0) ⊛ ‵ ftrue) ⊛ ‵ (owns (types_at f.signature.params κs) a y.0.4)) ∷ raw (fact 𝓤 Asked) ∷ []) ∵
    move ! (1 ∷ []) $ heard ! Asked (λ asked. split ! $ move ! (1 ∷ []) $ fsplit ! $ move ! (2 ∷ []) $ split ! $ keep ! (2 ∷ 0 ∷ []) $
    enter ! _ _ _ _ _ $ alloc_all ! (λ l. pass_all ! refl ((tt, tt), (pointer_typed pointer.ptr, ((tt, record { fits = are.1.1.0.1 }), ((tt, record { fits = are.1.1.1.0.1 }), tt)))) $
    fsplit3 ! $ move ! (1 ∷ 2 ∷ 3 ∷ []) $ opens ! tt Cr sb so (λ us. move ! (1 ∷ []) $ fsplit ! $ move ! (1 ∷ []) $
    in_a_block ! h.at (λ p. cells_own p h.slots) (id⊢ 𝓤 (never 𝓤)) (λ b o e.
    -- [the places; the mark; the struct's cell; the open borrow, in three entries; self's first part]
    take_at ! 2 $ rewrite ! 0 (λ (p : Ptr). ‵ (fat full_share (layout Bs) (l 2) 0 (pointer_val p))) (asked.0 ∙ e) refl $ give_at ! 2 $ first ! $ blocks ! $
    sets ! (bin ! (get_in ! (fld ! refl (stop !)) (sub ! 0 refl (whole !))) (get ! refl) tt) refl (tt, tt) $
    use1 𝓛 (‵ (froom byte_ty b (index + o)) ⊛ ‵ (others b o h.slots index)) (place_out 𝓛 b h.slots index o (index + o) refl asked.2) $ split ! $
    assigns_last ! (of_opd ! (get ! refl)) (through ! refl (stop !)) (init ! 0 refl (tt, record { fits = are.1.1.1.0.1 })) $
    exec ! 𝓣.C 𝓣.Λ (env code.Mir.locals l) (after 1 (code.function).body) (at_ret _ (W.post y)) $ sets ! (of_opd ! (unit_lit !)) refl (tt, tt) $
    use2 𝓛 (‵ (places b o new.slots)) (place_in 𝓛 b h.slots index o (index + o) byte refl asked.2) $
    rewrite ! 0 (λ (p : Ptr). ‵ (cells_own p new.slots)) (sym e) refl $ move ! (1 ∷ 0 ∷ []) $ fjoin ! $ move ! (1 ∷ 0 ∷ []) $ closes ! tt Cr new us sb so $
    -- [two parts of self; the token; self's first part]
    returns ! (look_at ! 0 refl) $ free_all ! refl $ move ! (3 ∷ []) $
    suffices ! _ (ends_at 𝓛 f.ended stayed c y vunit tt (new, (tt, (tt, (tt, tt)))) (tt, (tt, (tt, (tt, tt))))) $ says ! (refl, refl) $
    fjoin3 ! $ nothing ! $ nothing ! $ fjoin ! $ nothing ! $ fjoin ! $ nothing ! $ fjoin ! $ move ! (1 ∷ 0 ∷ []) $ fjoin ! $
    nothing ! $ move ! (2 ∷ 0 ∷ []) $ join ! $ frame ! $ frame ! $ feq_i ! _ (vunit ∷ []) _ refl $ done !)))))
