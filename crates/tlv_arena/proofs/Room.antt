-- Room for one more object, as a test and as a fact.
use Rattle.std.proofs.Common.{◌≡◌, ℕ, ◌+◌, Bool, true, false, ◌&&◌, leb, ltb, length, refl}
use Rattle.std.proofs.lemmas.Bool.{leb-true, ltb-true, le-leb, lt-ltb, and_from, both_ways}
use Rattle.ep_base.specs.Objects.Arena.{Contents, live_bytes, HasRoom, has_room}

both : (x y : Bool) → (x && y) ≡ true → (x ≡ true) × (y ≡ true)
both true y e = (refl, e)
both false y e = absurd cc

pub room_of : (len : ℕ) (c : Contents) → has_room len c ≡ true → HasRoom len c
room_of len c e =
    let parts = both (leb (live_bytes c.objects + len) c.bytes) (ltb (length c.objects) c.slots) e in
    (leb-true _ _ parts.0, ltb-true _ _ parts.1)

pub no_room : (len : ℕ) (c : Contents) → has_room len c ≡ false → HasRoom len c → ⊥
no_room len c e room = both_ways (has_room len c) e (and_from _ _ (le-leb _ _ room.0) (lt-ltb _ _ room.1))
