-- `allocate` reads new memory as a row of places without bytes; the leave to free it goes into the deed. Assumes `Logic`.
use Rattle.raw_block.proofs.Steps.{◌≡◌, ◌^◌, ◌<◌, ◌≤◌, List, [], ◌∷◌, ◌++◌, None, replicate, refl, ◌∙◌, lit<, w64, arith, proved_at, leaves, after, SProp, emp, id⊢, Lft, Share, ftrue, flft, Ty, Fn, Args, a_type, dcons, dnil, Val, vint, vptr, vcons, vnil, vstruct, Env, WpFn, fact, fact_i, tables, ‵, raw, ◌⊛◌, prop, at_ret, later, await, ◌$◌, ◌∵◌, !, qed, by, move, drop, use0, use1, use2, use3, split, join, fsplit, fjoin, regoal, whole, agg, enter, of_opd, lit, stop, fld, first, exec, returns, and_then, no_more, alloc_all, pass_all, free_all, look_at, get, get_in, get_tag, sets, sets_last, lands_as, env, usize, RattleType, owns, Ptr, block_ptr, RefOf, plain, types_at, type_at, nothing, heard, alive, Stays, walk_of, stay_dropped, Goes-dropped}
use mathlib.Core.Bool.{true, false}
use mir.MapTy.{inst_fn}
use prog.Capped.{capped_is}
use prog.Memory.{capped, size}
use prog.Wp.{Wp, after_seq, at_return}
use contract.BorrowLft.{◌⊑◌, ⊑_trans}
use types.Kit.{Post as After, any_q}
use types.Match.{live, vrt, in_variant}
use types.Run.{switches_on}
use denote.Laws.{Is}
use denote.Param.{param, bounded}
use denote.RawPtr.{RawPtr}
use denote.Steps.{owned}
use denote.Struct.Struct.{Struct, Struct-Makes}
use denote.Struct.Declared as Declared
use denote.Struct.Tuple.{Tuple}
use denote.Triple.Call.{calls_at}
use denote.Triple.Table.{framed}
use Rattle.std.specs.Prelude.{Ok, Err}
use Rattle.std.specs.contracts.alloc.AllocError as AE
use Rattle.std.proofs.alloc.Calls.{Al, seen, Answer-typed, Takes, at_takes, Answered, Takes-goes, Takes-gives, answers}
use Rattle.std.proofs.VecSteps.Shapes.{head, arm_body}
use Rattle.std.proofs.ResultValues.{ok_of, err_of}
use Rattle.raw_block.specs.Ownership.{bytes_ty, places}
use Rattle.raw_block.proofs.Places.{of_room}
use Rattle.raw_block.proofs.Values.{of_fields, pointer_val, pointer_made, owner_val, owner_made, triple_val, triple_made}
use Rattle.raw_block.specs.contracts.cells.Cells.{the_row as Cr}
use Rattle.raw_block.specs.contracts.cells.Pointer.{the_row as Bs}
use Rattle.raw_block.specs.contracts.cells.Deed as D
use Rattle.raw_block.specs.contracts.cells.allocate as f
use Rattle.raw_block.proofs.cells.allocate.Statement.{statement}
use Rattle.raw_block.proofs.cells.allocate.Code as code

pub allocate_spec : {M : Type 1} → statement M
allocate_spec 𝓤 𝓛 𝓜 𝓡 wired A L g d dd met md =
    let H = 𝓛.H in let E = f.ended A g d dd in let c = f.clauses A g d dd 𝓛 𝓜.mem 𝓡.returns in
    let args : Args = bounded (a_type ∷ []) (A, tt) (dcons d (dcons dd dnil)) in let fn : Fn = inst_fn args code.function in
    let stayed : Stays E.signature.params E.kept = (stay_dropped _ _, (stay_dropped _ _, tt)) in
    let C = (tables 𝓤 H 𝓜 𝓡 𝓡.env).C in let Λ = (tables 𝓤 H 𝓜 𝓡 𝓡.env).Λ in
    let Z : RattleType = param 0 A in let Y : Al = record { row = A; laws = L; g = g; d = d; drops = dd } in
    let Dd : RattleType = D.the_row Z g in let Three : RattleType = Tuple (Bs ∷ Cr ∷ Dd ∷ []) in
    proved_at 𝓛 E stayed c 𝓜 𝓡 (Goes-dropped 𝓛 2 (RefOf (0 ∷ []) tt (plain (λ _. Z)) (λ _. tt)) E.kept.0 (λ κs x w. refl), (Goes-dropped 𝓛 2 (plain (λ _. usize)) E.kept.1.0 (λ κs x w. refl), tt))
    (f.Key.name args) fn (code.unfolded 𝓤 H 𝓜 𝓡 wired (A, tt) d dd) (λ z are.
    let Post : Val → SProp 𝓤 = (walk_of 𝓛 E stayed c).post z in
    let κs = z.0.0 in let qs = z.0.1 in let a = z.0.3 in let vss = z.0.4 in let κ : Lft = κs.0 in let q : Share = qs.0 in
    let h = a.0.now in let lies = a.0.ref_ptr in let n = a.1.0 in let τ : Ty = bytes_ty n in
    let y = at_takes Y 𝓛 𝓜.mem 𝓡.returns κ q lies h n 1 τ in let Out : RattleType = type_at E.signature.result κs in let Asked : Type 0 = n ≤ 65536 in
    qed 𝓛 ((raw (alive 𝓛 E.signature κs qs) ⊛ ‵ (owns (types_at E.signature.params κs) a vss)) ∷ (raw (fact 𝓤 (κs.1.0 ⊑ A.lives)) ⊛ raw (fact 𝓤 Asked)) ∷ []) ∵
    move ! (1 ∷ []) $ split ! $ heard ! (κs.1.0 ⊑ A.lives) (λ le. heard ! Asked (λ small. split ! $ move ! (1 ∷ []) $
    let bytes : n < 2 ^ 64 = omega arith in
    let sized : capped (size τ) ≡ n = capped_is (size τ) (omega arith) ∙ omega arith in
    fsplit ! $ fsplit ! $ drop ! $ move ! (1 ∷ []) $ drop ! $ use1 𝓛 (‵ (seen Y κ lies h)) (id⊢ 𝓤 _) $ move ! (1 ∷ []) $
    use1 𝓛 (‵ (flft κ q) ⊛ ‵ (flft κs.1.0 qs.1.0) ⊛ ‵ ftrue) (id⊢ 𝓤 _) $ split ! $ move ! (2 ∷ 0 ∷ []) $
    regoal ! (λ (us : List Val). prop (WpFn 𝓤 H C Λ fn us Post)) (λ i. are.0.0 i ++ (are.1.0.0 i ++ [])) refl $
    enter ! C Λ fn (vptr lies.0 lies.1 ∷ vint w64 n ∷ []) Post $ alloc_all ! (λ l. pass_all ! refl ((tt, tt), ((tt, record { fits = bytes }), tt)) $
    let En : Env 𝓤 H = env fn.locals l in
    let Then : After 𝓤 H = any_q (after_seq 𝓤 H (Wp 𝓤 H C Λ En (after 2 fn.body) (at_return 𝓤 H En Post)) (at_return 𝓤 H En Post)) in
    use2 𝓛 (raw ((Takes Y 𝓛 𝓜.mem 𝓡.returns).pre y)) (Takes-goes Y 𝓛 𝓜.mem 𝓡.returns κ q lies h (⊑_trans κ κs.1.0 A.lives z.0.2.0 le) n 1 τ sized refl bytes (lit< tt)) $
    calls_at ! (framed 𝓤 H 𝓜 (tables 𝓤 H 𝓜 𝓡 𝓡.env)) (Takes Y 𝓛 𝓜.mem 𝓡.returns) (met.allocate dd) y (and_then ! (get ! refl) (and_then ! (get ! refl) (and_then ! (lit ! tt) (no_more !)))) (λ v.
    use1 𝓛 (later (raw (Answered Y 𝓛 𝓜.mem 𝓡.returns h τ v) ⊛ ‵ (flft κ q))) (Takes-gives Y 𝓛 𝓜.mem 𝓡.returns κ q lies h n 1 τ v) $ await ! tt $ split ! $
    answers Y ! 𝓜.mem 𝓡.returns h τ v
    (λ b o e.
    let p : Ptr = block_ptr b o in let pointer : (Bs).Denot = record { ptr = p } in
    let cells : (Cr).Denot = record { mark = record {}; at = p; slots = replicate n None } in let deed : Dd.Denot = record { mark = record {}; at = p; len = n; alloc = h } in
    let made : Val = triple_val (pointer_val p) owner_val owner_val in
    -- [room for the bytes; the right to free them; the token; the other tokens]
    move ! (2 ∷ 3 ∷ []) $ join ! $ move ! (1 ∷ 2 ∷ []) $ lands_as ! e refl (Answer-typed true b o) $
    first ! $ switches_on ! (get_tag ! (vrt ! refl (fld ! refl (stop !))) (whole !)) $ exec ! C Λ En (arm_body 0 (head (after 1 fn.body))) Then $
    sets ! (of_opd ! (get_in ! (vrt ! refl (fld ! refl (stop !))) (in_variant ! 0 0 refl refl (whole !)))) refl (tt, tt) $
    sets ! (agg ! (and_then ! (get ! refl) (no_more !))) refl (tt, (tt, tt)) $
    sets ! (agg ! (no_more !)) refl (tt, tt) $ sets ! (agg ! (and_then ! (get ! refl) (no_more !))) refl (tt, (tt, tt)) $
    sets ! (agg ! (no_more !)) refl (tt, tt) $ sets ! (agg ! (and_then ! (get ! refl) (no_more !))) refl (tt, (tt, tt)) $
    sets ! (agg ! (and_then ! (get ! refl) (and_then ! (get ! refl) (and_then ! (get ! refl) (no_more !))))) refl (tt, ((tt, tt), ((tt, tt), ((tt, tt), tt)))) $
    sets_last ! (agg ! (and_then ! (lit ! tt) (and_then ! (get ! refl) (no_more !)))) refl (tt, (record { fits = lit< tt }, (((tt, tt), ((tt, tt), ((tt, tt), tt))), tt))) $
    exec ! C Λ En (after 2 fn.body) (at_ret En Post) $ sets ! (of_opd ! (get ! refl)) refl (tt, (record { fits = lit< tt }, (((tt, tt), ((tt, tt), ((tt, tt), tt))), tt))) $
    returns ! (look_at ! 0 refl) $ free_all ! refl $
    use1 𝓛 (‵ (places b o (replicate n None))) (of_room 𝓛 b n o) $ use0 𝓛 (‵ ((of_fields (of_fields [] ∷ [])).own_val (tt, tt) (owner_val ∷ []))) (owner_made 𝓛) $ fjoin ! $ move ! (1 ∷ []) $
    use0 𝓛 (‵ ((of_fields (of_fields [] ∷ [])).own_val (tt, tt) (owner_val ∷ []))) (owner_made 𝓛) $ fjoin ! $ use0 𝓛 (‵ ((of_fields (RawPtr ∷ [])).own_val (p, tt) (pointer_val p ∷ []))) (pointer_made 𝓛 p) $ move ! (0 ∷ 2 ∷ 1 ∷ []) $
    use3 𝓛 (‵ (Three.own_val (pointer, cells, deed) (made ∷ []))) (triple_made 𝓛 Bs Cr Dd pointer cells deed (pointer_val p) owner_val owner_val) $
    use1 𝓛 (‵ (Out.own_val (Ok (pointer, cells, deed)) (live 0 (vcons made vnil) ∷ []))) (ok_of 𝓛 Three AE.the_row (pointer, cells, deed) made) $
    let Got : Type 0 = (p ≡ p) × (replicate n None ≡ cells.slots) × (p ≡ p) × (n ≡ n) × (h ≡ h) in
    use0 𝓛 (raw (fact 𝓤 Got)) (fact_i 𝓤 Got (emp 𝓤) (refl, refl, refl, refl, refl)) $ nothing ! $ nothing ! $ fjoin ! $ nothing ! $ fjoin ! $ move ! (3 ∷ 0 ∷ 2 ∷ 1 ∷ []) $
    by ! (leaves 𝓛 E stayed c z (live 0 (vcons made vnil)) (Ok (pointer, cells, deed)) (tt, (tt, tt)) (tt, (tt, tt))))
    (λ e.
    let Refusal : RattleType = Struct (Declared.shape AE.the_type) in let none : Val = live 1 (vcons (vstruct vnil) vnil) in
    join ! $ lands_as ! e refl (Answer-typed false 0 0) $
    first ! $ switches_on ! (get_tag ! (vrt ! refl (fld ! refl (stop !))) (whole !)) $ exec ! C Λ En (arm_body 1 (head (after 1 fn.body))) Then $
    sets ! (of_opd ! (get_in ! (vrt ! refl (fld ! refl (stop !))) (in_variant ! 1 0 refl refl (whole !)))) refl (tt, tt) $
    sets_last ! (agg ! (and_then ! (lit ! tt) (and_then ! (get ! refl) (no_more !)))) refl (tt, (record { fits = lit< tt }, (tt, tt))) $
    exec ! C Λ En (after 2 fn.body) (at_ret En Post) $ sets ! (of_opd ! (get ! refl)) refl (tt, (record { fits = lit< tt }, (tt, tt))) $
    returns ! (look_at ! 0 refl) $ free_all ! refl $
    owned ! Refusal (Is Refusal) (Struct-Makes 𝓛 (Declared.shape AE.the_type) tt) tt (vstruct vnil ∷ []) (tt, (refl, tt)) $
    use1 𝓛 (‵ (Out.own_val (Err (record {})) (none ∷ []))) (err_of 𝓛 Three AE.the_row (record {}) (vstruct vnil)) $
    use0 𝓛 (raw (fact 𝓤 (Unit {0}))) (fact_i 𝓤 (Unit {0}) (emp 𝓤) tt) $ nothing ! $ nothing ! $ fjoin ! $ nothing ! $ fjoin ! $ move ! (3 ∷ 0 ∷ 2 ∷ 1 ∷ []) $
    by ! (leaves 𝓛 E stayed c z none (Err (record {})) (tt, (tt, tt)) (tt, (tt, tt)))))))))
