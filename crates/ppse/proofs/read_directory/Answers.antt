use Rattle.std.proofs.Common.{ℕ, length, sym, ap, ◌∙◌, arith}
use Rattle.ep_base.specs.Objects.Arena.{Object, Contents, live_bytes, value_in}
use Rattle.ep_base.specs.Objects.Reading.{forest_of}
use Rattle.ep_base.specs.Objects.Directory.{entries_of, held_from}
use Rattle.ppse.proofs.Spare.{load_entries, kept_entries}
use Rattle.ppse.proofs.Groups.{held}
use Rattle.ppse.proofs.read_directory.Goals as goal

pub returns-clause-held : goal.returns-clause-held
returns-clause-held c =
    let es = entries_of (forest_of c.in-Some.objects.now) in
    let base = held 1 es c.args.arena.now.contents (λ g t le. ap (value_in g t) c.requires.empty) in
    ap (λ (n : ℕ). held_from 1 n c.put_entries.new.arena.objects) c.put_entries.ensures.count
    ∙ ap (λ (k : Contents). held_from 1 (length es) k.objects) c.put_entries.ensures.contents ∙ base ∙ sym c.in-Some.ensures.entries

pub returns-clause-room : goal.returns-clause-room
returns-clause-room c =
    let es = entries_of (forest_of c.in-Some.objects.now) in
    omega (
      arith,
      load_entries 1 es c.args.arena.now.contents,
      c.put_entries.ensures.cost,
      ap live_bytes c.requires.empty,
      ap (length {A = Object}) c.requires.empty,
      ap (λ (k : Contents). live_bytes k.objects) c.put_entries.ensures.contents,
      ap (λ (k : Contents). length k.objects) c.put_entries.ensures.contents,
    )

pub returns-clause-next : goal.returns-clause-next
returns-clause-next c =
    let es = entries_of (forest_of c.in-Some.objects.now) in
    omega (
      arith,
      (kept_entries 1 es c.args.arena.now.contents).0,
      ap (length {A = Object}) c.requires.empty,
      ap (λ (k : Contents). k.next) c.put_entries.ensures.contents,
      ap (λ (k : Contents). length k.objects) c.put_entries.ensures.contents,
    )

pub returns-clause-capacities : goal.returns-clause-capacities
returns-clause-capacities c =
    let es = entries_of (forest_of c.in-Some.objects.now) in
    let k = kept_entries 1 es c.args.arena.now.contents in
    (ap (λ (d : Contents). d.bytes) c.put_entries.ensures.contents ∙ k.1, ap (λ (d : Contents). d.slots) c.put_entries.ensures.contents ∙ k.2)
