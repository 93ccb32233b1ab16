-- What is in the air, while several cards answer one after another (this project's own).
use Rattle.std.specs.Prelude.{List, [], ◌∷◌, Option, Some, None, if◌then◌else◌}
use Rattle.ep_base.specs.Air.Heard.{Sent, Heard, Silence, Noise, Overlap, Frame}
use Rattle.ep_base.specs.Cards.Field.{same_frame}
use Rattle.rf_field.specs.declared.aired.Sound.{Sound}
use Rattle.rf_field.specs.declared.aired.Sound.TheVariants as sounds
use Rattle.rf_field.specs.declared.aired.Aired.{Aired}

-- What is in the air, by its sort and the frame that was sent last (this project's own).
abbrev pub aired_by : Sound → Sent → Heard
aired_by sounds.Silence f = Silence
aired_by sounds.Noise f = Noise
aired_by sounds.Overlap f = Overlap
aired_by sounds.Frame f = Frame f.wave f.bytes

-- What is in the air, in plain data (this project's own).
abbrev pub aired_of : Aired → Heard
aired_of a = aired_by a.sound a.sent

-- A frame, and one more.
abbrev pub also : Sent → Sent → Heard
also f g = if same_frame f g then Frame f.wave f.bytes else Overlap

-- Something, and one more frame.
abbrev pub one_more : Heard → Sent → Heard
one_more Silence g = Frame g.wave g.bytes
one_more Noise g = Noise
one_more Overlap g = Overlap
one_more (Frame wave bytes) g = also (record { wave = wave; bytes = bytes }) g

-- Something, and one more answer, if there is one (this project's own).
abbrev pub with_answer : Heard → Option Sent → Heard
with_answer h None = h
with_answer h (Some g) = one_more h g

-- Something, and more answers (this project's own).
abbrev pub with_answers : Heard → List Sent → Heard
with_answers h [] = h
with_answers h (g ∷ gs) = with_answers (one_more h g) gs
