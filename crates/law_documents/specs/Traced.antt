-- A document with the trace that a run wrote (this project's own).
use Rattle.std.specs.Prelude.{◌≡◌, ◌≢◌, ◌≤◌, All, true, codes, ℕ, List, [], ◌∷◌, length, map, Ok, Some}
use Rattle.std.specs.Ordering.{nat_cmp, match_ordering}
use Rattle.std.specs.Cmp.Lexicographic.{slice_cmp}
use Rattle.toml.specs.Data.{Data, string, array, Items, no_items, item, Members, no_members, member, get_member}
use Rattle.doc_table.specs.Order.{keys_ascend}
use Rattle.ep_base.specs.declared.limits.TheConstants.{TRACE_LINES}
use Rattle.ep_claim.specs.Text.TraceForm.{HoldsLine}
use Rattle.ep_claim.specs.Text.TraceLine.{TraceLine, trace_text}
use Rattle.scenario.specs.Plan.{Plan, plan}

-- Texts as the elements of an array (this project's own).
abbrev pub text_items : List (List ℕ) → Items
text_items [] = no_items
text_items (t ∷ ts) = item (string t) (text_items ts)

-- Members with this value at a key: in the place of an earlier one, or else before the first key that comes after it (this project's own).
abbrev pub with_member : List ℕ → Data → Members → Members
with_member k d no_members = member k d no_members
with_member k d (member l e ms) =
    match_ordering (slice_cmp nat_cmp k l) (member k d (member l e ms)) (member k d ms) (member l e (with_member k d ms))

-- A document with these texts as its trace (this project's own).
abbrev pub with_trace : Members → List (List ℕ) → Members
with_trace members texts = with_member (codes "trace") (array (text_items texts)) members

-- A document that is accepted, with the texts of exchanges that trace lines can hold as its trace, is accepted too: it means the same, and its trace
-- is these exchanges (this project's own).
abbrev pub WrittenTracesAreRead : Type 0
WrittenTracesAreRead =
    (members : Members) (p : Plan) (lines : List TraceLine) → plan members ≡ Ok p → All HoldsLine lines → length lines ≤ TRACE_LINES →
    plan (with_trace members (map trace_text lines)) ≡ Ok (record p { trace = Some lines })

-- Members that have this value at a key, at every other key what others have, and keys in byte order where these have them so (this project's own).
pub record IsWith (k : List ℕ) (d : Data) (before after : Members) : Type 0 where
  pub there : get_member k after ≡ Some d
  pub others : (j : List ℕ) → j ≢ k → get_member j after ≡ get_member j before
  pub ascend : keys_ascend before ≡ true → keys_ascend after ≡ true

-- A document with texts as its trace has them at that key, and all else as it was (this project's own).
abbrev pub TracesAreEntered : Type 0
TracesAreEntered = (members : Members) (texts : List (List ℕ)) → IsWith (codes "trace") (array (text_items texts)) members (with_trace members texts)
