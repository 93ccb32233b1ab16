-- What a call means.
use Rattle.std.specs.Prelude.{List, map}
use Rattle.ep_base.specs.Objects.Arena.{ArenaCall as ArenaCallData, put, replace, remove, drop_group, clear, relocate}
use Rattle.tlv_arena.specs.declared.calls.ArenaCall.{ArenaCall}
use Rattle.tlv_arena.specs.declared.calls.ArenaCall.TheVariants.{Put, Replace, Remove, DropGroup, Clear, Relocate}

-- the call that a value names (this project's own)
abbrev pub call_of : ArenaCall → ArenaCallData
call_of (Put group tag value) = put group tag value.now
call_of (Replace id value) = replace id.serial value.now
call_of (Remove id) = remove id.serial
call_of (DropGroup group) = drop_group group
call_of Clear = clear
call_of Relocate = relocate

-- the calls that values name (this project's own)
abbrev pub calls_of : List ArenaCall → List ArenaCallData
calls_of calls = map call_of calls
