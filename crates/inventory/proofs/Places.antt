-- Where a walk can stand.
use Rattle.std.proofs.Common.{◌≡◌, ℕ, get_or, inl, inr, ◌-◌, ◌<◌, ◌≤◌, ◌==◌, nat_lt, Bool, true, false, List, [], ◌∷◌, length, reverse, refl, ap, ◌∙◌, arith, if◌then◌else◌}
use Rattle.std.specs.Prelude.{All}
use Rattle.std.proofs.lemmas.List.{length-reverse}
use Rattle.ep_base.specs.Cards.Lawful.{IsUid, Four, Seven, Ten}
use Rattle.inventory.specs.declared.walk.Path.{Path}
use Rattle.inventory.specs.CardView.{HasLevels, TagFits}
use Rattle.inventory.specs.Tags.{Tag, IsTag}
use Rattle.inventory.specs.Turns.{spent}
use Rattle.inventory.proofs.Leading.{used_most}
use Rattle.inventory.specs.Walks.{Walk, IsPath, IsWalk, Falls, position, known_of}

uid_levels : (uid : List ℕ) → IsUid uid → HasLevels uid
uid_levels _ (Four a b c d n) = inl refl
uid_levels _ (Seven a b c d e f g n) = inr (inl refl)
uid_levels _ (Ten a b c d e f g h i j) = inr (inr refl)

pub tags_fit : (tags : List Tag) → All IsTag tags → All TagFits tags
tags_fit tags each = λ i d lt. uid_levels (get_or tags i d).uid (each i d lt).uid

pub falls_length : (ps : List Path) (n : ℕ) → Falls ps n → length ps ≤ n
falls_length [] n f = omega arith
falls_length (p ∷ ps) n f = omega (arith, f.0, f.1, falls_length ps (position p - 1) f.2)

position_by : (b d : Bool) (p : Path) → IsPath p → (if b then p.first else (if d then p.second else p.third)).bits ≤ 31 → position p ≤ 95
position_by true d p ip le = omega (arith, le, ip.second.most, ip.third.most)
position_by false true p ip le = omega (arith, le, ip.first.most, ip.third.most)
position_by false false p ip le = omega (arith, le, ip.first.most, ip.second.most)

-- There is room for one path more.
pub room : (w : Walk) (items : List Path) → IsWalk w → (known_of w).bits ≤ 31 → w.pending ≡ reverse items → length items < 96
room w items is le e =
    let same : length w.pending ≡ length items = ap length e ∙ length-reverse items in
    omega (arith, same, falls_length w.pending (position w.path) is.falls, position_by (w.level == 1) (w.level == 2) w.path is.path le)

-- A bound on all exchanges.
pub spent_most : (w : Walk) (n : ℕ) → IsWalk w → n ≤ 16 → spent w n ≤ 230
spent_most w n is few =
    omega (arith, few, is.most, falls_length w.pending (position w.path) is.falls, is.path.first.most, is.path.second.most, is.path.third.most, used_most w.awake (nat_lt (known_of w).bits 32) w.level)
