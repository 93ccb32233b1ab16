-- The names that the walks cite.
pub use Rattle.std.proofs.Common.{◌≡◌, ℕ, ◌+◌, ◌*◌, ◌^◌, ◌<◌, ◌≤◌, List, [], ◌∷◌, ◌++◌, Some, None, map, length, take, drop as dropped, replicate, refl, sym, ap, ◌∙◌, subst, lit<, w8, w64, arith}
pub use Rattle.std.proofs.raw_atomic.Walks.{proved, proved_at, leaves}
pub use Rattle.std.proofs.VecSteps.Shapes.{after}
pub use base.Fraction.{full_share}
pub use base.Logic.{SProp, emp, never, id⊢}
pub use base.Fml.{Lft, Share, ftrue, fat, flft}
pub use mir.Syntax.{Ty, Fn, Args, a_type, dcons, dnil, place as at_local, named}
pub use mir.Val.{Val, vunit, vint, vptr, vcons, vnil, vstruct}
pub use prog.Wp.{Env, WpFn}
pub use contract.Monad.{fact, fact_i}
pub use contract.Running.{tables}
pub use types.Kit.{‵, raw, ◌⊛◌, prop, at_ret, later, given, learn, settles, await, ◌$◌, ◌∵◌, !, qed, by, done, move, keep, drop, use0, use1, use2, use3, split, join, fsplit, fsplit3, fjoin, fjoin3, feq_i, feq_l, flt_i, rewrite, regoal, suffices, frame}
pub use types.Part.{whole, sub, agg}
pub use types.Run.{enter, of_opd, lit, unit_lit, bin, init, stop, fld, first, blocks, exec, returns, assigns_last, no_more, and_then}
pub use types.ByLocal.{alloc_all, pass_all, free_all, look_at, get, get_in, through, sets, sets_last, take_at, give_at, lands_as, lands_last, get_tag, env}
pub use denote.Builtin.{u8, usize, unit}
pub use denote.Plain.{uint_vals, uint_Tells}
pub use denote.Param.{layout}
pub use denote.RattleType.{RattleType, owns}
pub use denote.RawPtr.{Ptr, block_ptr, ptr_val, in_a_block}
pub use denote.Ref.{mut_vals, mut_Tells, shr_vals, shr_Tells}
pub use denote.Signature.{plain, types_at, type_at}
pub use denote.Steps.{nothing, opens, closes, heard}
pub use denote.Triple.Entry.{on_entry, alive}
pub use denote.Triple.Walked.{Stays, walk_of, says, stay_dropped, Goes-dropped, stay_ref, Goes-ref, ends_at}
pub use denote.Builtin.{RefOf}
