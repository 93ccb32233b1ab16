-- `slice` makes one reference of what a `&` to the places holds of each byte. Assumes `Logic`.
use Rattle.raw_block.proofs.Steps.{◌≡◌, ℕ, ◌+◌, ◌*◌, ◌^◌, ◌≤◌, List, [], ◌∷◌, Some, map, length, take, dropped, refl, sym, ap, ◌∙◌, w64, arith, proved, after, full_share, never, id⊢, ftrue, fat, flft, named, Val, fact, tables, ‵, raw, ◌⊛◌, at_ret, ◌$◌, ◌∵◌, !, qed, done, move, keep, drop, use1, split, join, fsplit, fjoin, feq_i, flt_i, rewrite, suffices, frame, whole, sub, agg, enter, of_opd, bin, stop, fld, first, blocks, exec, returns, and_then, no_more, alloc_all, pass_all, free_all, look_at, get, get_in, sets, sets_last, take_at, give_at, env, u8, usize, uint_vals, uint_Tells, layout, owns, Ptr, in_a_block, shr_vals, shr_Tells, RefOf, plain, types_at, nothing, heard, Stays, walk_of, says, stay_dropped, Goes-dropped, ends_at}
use denote.Memory.{mem}
use denote.Opens.{hide, unhide}
use denote.Slice.{slice_val, elements_shared}
use Rattle.std.proofs.lemmas.List.{length-map}
use lib.ListN.{length-take, length-drop}
use Rattle.raw_block.specs.Ownership.{cells_lent}
use Rattle.raw_block.proofs.Places.{seen_run}
use Rattle.raw_block.proofs.Values.{pointer_val, pointer_typed}
use Rattle.raw_block.proofs.cells.Pointer.TheLaws.{lowers as B}
use Rattle.raw_block.specs.contracts.cells.Cells.{the_row as Cr}
use Rattle.raw_block.specs.contracts.cells.Pointer.{the_row as Bs}
use Rattle.raw_block.specs.contracts.cells.Cells.slice as f
use Rattle.raw_block.proofs.cells.Cells.slice.Statement.{statement}
use Rattle.raw_block.proofs.cells.Cells.slice.Code as code

abbrev stayed : Stays f.ended.signature.params f.ended.kept
stayed = (stay_dropped _ _, (stay_dropped _ _, (stay_dropped _ _, (stay_dropped _ _, tt))))

pub slice_spec : {M : Type 1} → statement M
slice_spec 𝓤 𝓛 𝓜 𝓡 wired =
    let c = f.clauses 𝓛 𝓜.mem 𝓡.returns in let W = walk_of 𝓛 f.ended stayed c in let 𝓣 = tables 𝓤 𝓛.H 𝓜 𝓡 𝓡.env in
    proved 𝓛 f.ended stayed c 𝓜 𝓡
    (Goes-dropped 𝓛 1 (RefOf (0 ∷ []) tt (plain (λ _. Cr)) (λ _. tt)) f.ended.kept.0 (λ κs x w. refl), (Goes-dropped 𝓛 1 (plain (λ _. Bs)) f.ended.kept.1.0 (λ κs x w. refl), (Goes-dropped 𝓛 1 (plain (λ _. usize)) f.ended.kept.1.1.0 (λ κs x w. refl), (Goes-dropped 𝓛 1 (plain (λ _. usize)) f.ended.kept.1.1.1.0 (λ κs x w. refl), tt))))
    f.Key.name code.function (code.unfolded 𝓤 𝓛.H 𝓜 𝓡 wired)
    (λ κs. (shr_vals, ((λ h. B.lowered h ∷ []), (uint_vals w64, (uint_vals w64, tt))))) (λ κs. (shr_Tells (named 0) κs.0 Cr, (B.val_is, (uint_Tells w64, (uint_Tells w64, tt))))) (λ κs qs bounds a bytes are.
    let h = a.0.now in let pointer = a.1.0 in let from = a.1.1.0 in let len = a.1.1.1.0 in
    let y : W.Ghost = ((κs, qs, bounds, a, (shr_vals a.0, (B.lowered pointer ∷ [], (uint_vals w64 from, (uint_vals w64 len, tt))))), bytes) in
    let Asked : Type 0 = (pointer.ptr ≡ h.at) × (length h.slots ≤ 65536) × (from + len ≤ length h.slots) × (take len (dropped from h.slots) ≡ map Some bytes) in
    qed 𝓛 (((‵ (flft κs.0 qs.0) ⊛ ‵ ftrue) ⊛ ‵ (owns (types_at f.signature.params κs) a y.0.4)) ∷ raw (fact 𝓤 Asked) ∷ []) ∵
    move ! (1 ∷ []) $ heard ! Asked (λ asked.
    let long : length bytes ≡ len = omega (arith, asked.2, ap length asked.3, length-map bytes Some, length-take len (dropped from h.slots), length-drop from h.slots) in
    split ! $ move ! (1 ∷ []) $ fsplit ! $ move ! (2 ∷ []) $ split ! $ keep ! (2 ∷ 0 ∷ []) $ fsplit ! $ drop ! $
    enter ! _ _ _ _ _ $ alloc_all ! (λ l. pass_all ! refl ((tt, tt), (pointer_typed pointer.ptr, ((tt, record { fits = are.1.1.0.1 }), ((tt, record { fits = are.1.1.1.0.1 }), tt)))) $
    unhide ! $ fsplit ! $ drop ! $ in_a_block ! h.at (λ p. cells_lent p h.slots κs.0) (id⊢ 𝓤 (never 𝓤)) (λ b o e.
    let there : ℕ × ℕ = (b, from + o) in
    -- [what the places lend; the token]
    take_at ! 2 $ rewrite ! 0 (λ (p : Ptr). ‵ (fat full_share (layout Bs) (l 2) 0 (pointer_val p))) (asked.0 ∙ e) refl $ give_at ! 2 $ first ! $ blocks ! $
    sets ! (bin ! (get_in ! (fld ! refl (stop !)) (sub ! 0 refl (whole !))) (get ! refl) tt) refl (tt, tt) $
    use1 𝓛 (‵ (elements_shared u8 bytes b (from + o) κs.0)) (seen_run 𝓛 b κs.0 h.slots from len o bytes asked.3) $ hide ! $
    sets_last ! (agg ! (and_then ! (get ! refl) (and_then ! (get ! refl) (no_more !)))) refl (tt, (tt, (record { fits = are.1.1.1.0.1 }, tt))) $
    exec ! 𝓣.C 𝓣.Λ (env code.Mir.locals l) (after 1 (code.function).body) (at_ret _ (W.post y)) $ sets ! (of_opd ! (get ! refl)) refl (tt, (tt, (record { fits = are.1.1.1.0.1 }, tt))) $
    flt_i ! (length bytes * (mem u8).size) (2 ^ 63) (omega (arith, asked.1, asked.2, long)) $ flt_i ! (length bytes) (2 ^ 64) (omega (arith, asked.1, asked.2, long)) $ fjoin ! $
    feq_i ! (List Val) (slice_val there len ∷ []) (slice_val there (length bytes) ∷ []) (ap (λ k. slice_val there k ∷ []) (sym long)) $ fjoin ! $ fjoin ! $
    returns ! (look_at ! 0 refl) $ free_all ! refl $ keep ! (1 ∷ 0 ∷ []) $
    suffices ! _ (ends_at 𝓛 f.ended stayed c y (slice_val there len) (record { ref_ptr = there; now = bytes }) (tt, (tt, (tt, (tt, tt)))) (tt, (tt, (tt, (tt, tt))))) $ says ! refl $
    nothing ! $ move ! (1 ∷ 0 ∷ []) $ join ! $ frame ! $ nothing ! $ nothing ! $ fjoin ! $ nothing ! $ fjoin ! $ nothing ! $ fjoin ! $ nothing ! $ fjoin ! $ done !))))
