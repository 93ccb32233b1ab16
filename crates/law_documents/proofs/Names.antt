-- The names of a directory's candidates are bytes, where the response was bytes.
use Rattle.std.proofs.Common.{ℕ, suc, ◌+◌, ◌-◌, ◌==◌, nat_lt, List, [], ◌∷◌, length, Option, Some, None}
use Rattle.std.specs.Prelude.{All}
use Rattle.std.proofs.lemmas.List.Elements.{All-nil, All-cons, All-head, All-tail, All-append}
use Rattle.hex.specs.Hex.{IsBytes}
use Rattle.ep_base.specs.declared.limits.TheConstants.{NAMED}
use Rattle.ep_base.specs.Cards.Apdu.{data_of, is_9000}
use Rattle.ep_base.specs.Objects.Directory.{Entry, first_value, first_inside, entry_of, entries_in, inside, entries_of, entries_read, directory}
use Rattle.ep_base.specs.Objects.Forest.{Forest, nothing, padding, primitive, constructed, tag_number}
use Rattle.ep_base.specs.Objects.Reading.{forest_of, forest_by}
use Rattle.ep_rules.specs.EntryPoint.Candidates.{Candidate, candidate_of, candidates, fits, pairs_of, pairs_after, named_with, pairs_from, is_before, put_in, in_order, bytes_or_none}
use Rattle.ep_rules.specs.EntryPoint.PreProcessing.{PreparedOne}
use Rattle.law_documents.proofs.Forests.{ForestOfBytes, forest_read}
use Rattle.law_documents.proofs.Parts.{IfThere, either, no_bytes, taken}

-- The values of an entry that go into a name.
abbrev EntryOfBytes : Entry → Type 0
EntryOfBytes e = IfThere IsBytes e.name × IfThere IsBytes e.extension

value_found : (tag : ℕ) (f : Forest) → ForestOfBytes f → IfThere IsBytes (first_value tag f)
value_found tag nothing h = tt
value_found tag (padding rest) h = value_found tag rest h
value_found tag (primitive t len value rest) h = either (IfThere IsBytes) (tag_number t == tag) _ _ h.0 (value_found tag rest h.1)
value_found tag (constructed t len inner rest) h = value_found tag rest h.1

inside_found : (tag : ℕ) (f : Forest) → ForestOfBytes f → IfThere ForestOfBytes (first_inside tag f)
inside_found tag nothing h = tt
inside_found tag (padding rest) h = inside_found tag rest h
inside_found tag (primitive t len value rest) h = inside_found tag rest h.1
inside_found tag (constructed t len inner rest) h = either (IfThere ForestOfBytes) (tag_number t == tag) _ _ h.0 (inside_found tag rest h.1)

inside_of : (tag : ℕ) (o : Option Forest) → IfThere ForestOfBytes o → IfThere ForestOfBytes (inside tag o)
inside_of tag None h = tt
inside_of tag (Some f) h = inside_found tag f h

entries_found : (f : Forest) → ForestOfBytes f → All EntryOfBytes (entries_in f)
entries_found nothing h = All-nil EntryOfBytes
entries_found (padding rest) h = entries_found rest h
entries_found (primitive t len value rest) h = entries_found rest h.1
entries_found (constructed t len inner rest) h =
    let more = entries_found rest h.1 in
    either (All EntryOfBytes) (tag_number t == 0x61) _ _
    (All-cons EntryOfBytes (entry_of inner) (entries_in rest) (value_found 0x4f inner h.0, value_found 0x9f29 inner h.0) more) more

all_found : (o : Option Forest) → IfThere ForestOfBytes o → All EntryOfBytes (entries_of o)
all_found None h = All-nil EntryOfBytes
all_found (Some f) h = entries_found f h

all_read : (o : Option Forest) → IfThere ForestOfBytes o → All EntryOfBytes (entries_read o)
all_read None h = All-nil EntryOfBytes
all_read (Some f) h =
    all_found (inside 0xbf0c (inside 0xa5 (first_inside 0x6f f)))
    (inside_of 0xbf0c (inside 0xa5 (first_inside 0x6f f)) (inside_of 0xa5 (first_inside 0x6f f) (inside_found 0x6f f h)))

directory_read : (r : List ℕ) → IsBytes r → All EntryOfBytes (directory r)
unfolding directory forest_of
directory_read r h =
    either (All EntryOfBytes) (is_9000 r) _ _
    (all_read (forest_by (suc (length (data_of r))) 0 (data_of r)) (forest_read (suc (length (data_of r))) 0 (data_of r) (taken (length r - 2) r h)))
    (All-nil EntryOfBytes)

-- The parts of a candidate's name.
abbrev pub CandidateOfBytes : Candidate → Type 0
CandidateOfBytes c = IsBytes c.name × IfThere IsBytes c.extension

name_or_none : (o : Option (List ℕ)) → IfThere IsBytes o → IsBytes (bytes_or_none o)
name_or_none None h = no_bytes
name_or_none (Some name) h = h

pairs_read : (k : ℕ) (e : Entry) (n : ℕ) (ones : List PreparedOne) → EntryOfBytes e → All CandidateOfBytes (pairs_of k e n ones)
pairs_read k e n [] h = All-nil CandidateOfBytes
pairs_read k e n (one ∷ ones) h =
    let more = pairs_read k e (n + 1) ones h in
    either (All CandidateOfBytes) (fits e one) _ _
    (All-cons CandidateOfBytes (candidate_of k e n one) (pairs_of k e (n + 1) ones) (name_or_none e.name h.0, h.1) more) more

after_read : (named n : ℕ) (e : Entry) (ones : List PreparedOne) → EntryOfBytes e → All CandidateOfBytes (pairs_after named n e ones)
after_read named n e ones h = either (All CandidateOfBytes) (nat_lt named NAMED) _ _ (pairs_read n e 1 ones h) (All-nil CandidateOfBytes)

from_read : (named n : ℕ) (es : List Entry) (ones : List PreparedOne) → All EntryOfBytes es → All CandidateOfBytes (pairs_from named n es ones)
from_read named n [] ones h = All-nil CandidateOfBytes
from_read named n (e ∷ es) ones h =
    All-append CandidateOfBytes (pairs_after named n e ones) (pairs_from (named_with named e) (n + 1) es ones)
    (after_read named n e ones (All-head EntryOfBytes e es h)) (from_read (named_with named e) (n + 1) es ones (All-tail EntryOfBytes e es h))

module _ (P : Candidate → Type 0) where
  put_all : (c : Candidate) (cs : List Candidate) → P c → All P cs → All P (put_in c cs)
  put_all c [] h all = All-cons P c [] h all
  put_all c (d ∷ ds) h all =
      either (All P) (is_before c d) _ _
      (All-cons P c (d ∷ ds) h all) (All-cons P d (put_in c ds) (All-head P d ds all) (put_all c ds h (All-tail P d ds all)))

  ordered_all : (cs : List Candidate) → All P cs → All P (in_order cs)
  ordered_all [] all = all
  ordered_all (c ∷ cs) all = put_all c (in_order cs) (All-head P c cs all) (ordered_all cs (All-tail P c cs all))

-- The candidates of a response of bytes.
pub candidates_read : (ones : List PreparedOne) (r : List ℕ) → IsBytes r → All CandidateOfBytes (candidates ones (directory r))
unfolding candidates
candidates_read ones r h = ordered_all CandidateOfBytes (pairs_from 0 1 (directory r) ones) (from_read 0 1 (directory r) ones (directory_read r h))
