-- What a card does with a frame, by what its end of the link did.
use Rattle.std.proofs.Common.{◌≡◌, ℕ, Bool, true, false, not, if◌then◌else◌, List, [], ◌∷◌, Option, Some, None, refl, sym, ap, ◌∙◌, subst}
use Rattle.arrayvec.specs.ArrayVec.{ArrayVec}
use Rattle.ep_base.specs.declared.air.CardKind.{CardKind}
use Rattle.ep_base.specs.Air.Heard.{Sent, wave_of_kind}
use Rattle.ep_base.specs.Link.Block.{Block}
use Rattle.ep_base.specs.Link.Spelling.{Read, Reads, Refuses, read_block}
use Rattle.ep_base.specs.Cards.CardAnswer.{Image, Answered, card_answer}
use Rattle.ep_base.specs.Link.CardEnd.{Card, card_hears, answers, is_halted, records}
use Rattle.ep_base.specs.Link.CardEnd as Ends
use Rattle.ep_base.specs.Link.Wire.{Heeded, unmoved, by_commands, image_after, maybe_frame, answers_by, takes_read, takes_opened}
use Rattle.ep_base.specs.Link.Wire as plain
use Rattle.block_card.specs.declared.held.CardNext.{CardNext}
use Rattle.block_card.specs.declared.held.CardNext.TheVariants.{Mute, Send, Execute}
use Rattle.block_card.specs.Held.{HeldCard, IsCard, card_of}
use Rattle.block_card.specs.Shows.{Answers, Shows, Stays, ShowsRead, ShowsOpen, ShowsFrame}
use Rattle.rf_field.specs.Parties.{party_by, takes_awake}

-- an end stands for its own card
pub own_card : (e : HeldCard) → IsCard e (card_of e)
own_card e = record { number = refl; last = refl; taken = refl; left = refl }

-- the answer of the rules, where the end stands for its card
as_answered : (old e : HeldCard) (image : Image) (a : Ends.Answer) (log : List (List ℕ)) (answer : Option Sent) → e.kind ≡ old.kind → e.fsd ≡ old.fsd → IsCard e a.card → a.card.log ≡ log → maybe_frame old.kind a.block ≡ answer → answers_by (party_by old image) a ≡ record { party = party_by e (image_after image log); executed = records image.number log; answer = answer }
as_answered old e image a log answer kind size is logged said =
    rw (is.number, is.last, is.taken, is.left, logged, said, kind, size) refl

-- the same for all that an end hears: awake or halted, damaged or not, a block or not
abbrev awake : Bool → plain.Party → Option (List ℕ) → Heeded
awake halted p payload = if not halted then takes_opened p payload else unmoved p

abbrev ShowsBy : Bool → CardNext → HeldCard → HeldCard → Option (List ℕ) → Type 0
ShowsBy halted next old new None = Stays next old new
ShowsBy halted next old new (Some message) = ShowsOpen halted next old new (card_of old) message

-- the end says nothing
mute_block : (old new : HeldCard) (image : Image) (block : Block) → new.kind ≡ old.kind → new.fsd ≡ old.fsd → Shows Mute new (card_of old) block → takes_read (party_by old image) (Reads block) ≡ record { party = party_by new image; executed = []; answer = None }
mute_block old new image block kind size shows =
    let does : Answers Mute new [] (card_hears old.fsd (by_commands image) (card_of old) block) = subst (λ (n : ℕ). Answers Mute new [] (card_hears n (by_commands image) (card_of old) block)) size (shows (by_commands image) (λ bytes. refl)) in
    as_answered old new image (card_hears old.fsd (by_commands image) (card_of old) block) [] None kind size does.0 does.2 (ap (maybe_frame old.kind) does.1)

mute_stays : (old new : HeldCard) (image : Image) → new ≡ old → unmoved (party_by old image) ≡ record { party = party_by new image; executed = []; answer = None }
mute_stays old new image same = ap (λ (e : HeldCard). record { party = party_by e image; executed = []; answer = None }) (sym same)

mute_read : (old new : HeldCard) (image : Image) (read : Read) → new.kind ≡ old.kind → new.fsd ≡ old.fsd → ShowsRead Mute old new (card_of old) read → takes_read (party_by old image) read ≡ record { party = party_by new image; executed = []; answer = None }
mute_read old new image (Reads block) kind size shows = mute_block old new image block kind size shows
mute_read old new image (Refuses fault) kind size shows = mute_stays old new image shows.1

mute_by : (halted : Bool) (old new : HeldCard) (image : Image) (payload : Option (List ℕ)) → new.kind ≡ old.kind → new.fsd ≡ old.fsd → ShowsBy halted Mute old new payload → awake halted (party_by old image) payload ≡ record { party = party_by new image; executed = []; answer = None }
mute_by true old new image None kind size shows = mute_stays old new image shows.1
mute_by true old new image (Some message) kind size shows = mute_stays old new image shows.1
mute_by false old new image None kind size shows = mute_stays old new image shows.1
mute_by false old new image (Some message) kind size shows = mute_read old new image (read_block message) kind size shows

shows_by : (next : CardNext) (old new : HeldCard) (payload : Option (List ℕ)) → ShowsFrame next old new (card_of old) payload → ShowsBy (is_halted (card_of old)) next old new payload
shows_by next old new None shows = shows
shows_by next old new (Some message) shows = shows

pub takes_mute : (old new : HeldCard) (image : Image) (payload : Option (List ℕ)) → new.kind ≡ old.kind → new.fsd ≡ old.fsd → ShowsFrame Mute old new (card_of old) payload → takes_awake (party_by old image) payload ≡ record { party = party_by new image; executed = []; answer = None }
takes_mute old new image payload kind size shows = mute_by (is_halted (card_of old)) old new image payload kind size (shows_by Mute old new payload shows)

sends_isnt_mute : (frame : ArrayVec ℕ) → Send frame ≡ Mute → ⊥
sends_isnt_mute frame e = cc

execute_isnt_mute : (command : List ℕ) → Execute command ≡ Mute → ⊥
execute_isnt_mute command e = cc

-- the end says a block
send_block : (old new : HeldCard) (image : Image) (frame : ArrayVec ℕ) (block : Block) → new.kind ≡ old.kind → new.fsd ≡ old.fsd → Shows (Send frame) new (card_of old) block → takes_read (party_by old image) (Reads block) ≡ record { party = party_by new image; executed = []; answer = Some (record { wave = wave_of_kind old.kind; bytes = frame.items }) }
send_block old new image frame block kind size shows =
    let a = card_hears old.fsd (by_commands image) (card_of old) block in
    let does : Answers (Send frame) new [] a = subst (λ (n : ℕ). Answers (Send frame) new [] (card_hears n (by_commands image) (card_of old) block)) size (shows (by_commands image) (λ bytes. refl)) in
    let said : maybe_frame old.kind a.block ≡ Some (record { wave = wave_of_kind old.kind; bytes = frame.items }) = subst (λ (k : CardKind). maybe_frame k a.block ≡ Some (record { wave = wave_of_kind k; bytes = frame.items })) kind does.1 in
    as_answered old new image a [] (Some (record { wave = wave_of_kind old.kind; bytes = frame.items })) kind size does.0 does.2 said

send_read : (old new : HeldCard) (image : Image) (frame : ArrayVec ℕ) (read : Read) → new.kind ≡ old.kind → new.fsd ≡ old.fsd → ShowsRead (Send frame) old new (card_of old) read → takes_read (party_by old image) read ≡ record { party = party_by new image; executed = []; answer = Some (record { wave = wave_of_kind old.kind; bytes = frame.items }) }
send_read old new image frame (Reads block) kind size shows = send_block old new image frame block kind size shows
send_read old new image frame (Refuses fault) kind size shows = absurd (sends_isnt_mute frame shows.0)

send_by : (halted : Bool) (old new : HeldCard) (image : Image) (frame : ArrayVec ℕ) (payload : Option (List ℕ)) → new.kind ≡ old.kind → new.fsd ≡ old.fsd → ShowsBy halted (Send frame) old new payload → awake halted (party_by old image) payload ≡ record { party = party_by new image; executed = []; answer = Some (record { wave = wave_of_kind old.kind; bytes = frame.items }) }
send_by true old new image frame None kind size shows = absurd (sends_isnt_mute frame shows.0)
send_by true old new image frame (Some message) kind size shows = absurd (sends_isnt_mute frame shows.0)
send_by false old new image frame None kind size shows = absurd (sends_isnt_mute frame shows.0)
send_by false old new image frame (Some message) kind size shows = send_read old new image frame (read_block message) kind size shows

pub takes_send : (old new : HeldCard) (image : Image) (frame : ArrayVec ℕ) (payload : Option (List ℕ)) → new.kind ≡ old.kind → new.fsd ≡ old.fsd → ShowsFrame (Send frame) old new (card_of old) payload → takes_awake (party_by old image) payload ≡ record { party = party_by new image; executed = []; answer = Some (record { wave = wave_of_kind old.kind; bytes = frame.items }) }
takes_send old new image frame payload kind size shows = send_by (is_halted (card_of old)) old new image frame payload kind size (shows_by (Send frame) old new payload shows)

-- the end gives a command, and answers it
execute_block : (old mid fin : HeldCard) (image : Image) (command : List ℕ) (frame : ArrayVec ℕ) (block : Block) → mid.fsd ≡ old.fsd → fin.kind ≡ old.kind → fin.fsd ≡ old.fsd → ((log : List (List ℕ)) → Answers (Send frame) fin log (answers mid.fsd mid.number (card_answer image command).0 log)) → Shows (Execute command) mid (card_of old) block → takes_read (party_by old image) (Reads block) ≡ record { party = party_by fin (card_answer image command).1; executed = (image.number, command) ∷ []; answer = Some (record { wave = wave_of_kind old.kind; bytes = frame.items }) }
execute_block old mid fin image command frame block size kind' size' says shows =
    let a = card_hears old.fsd (by_commands image) (card_of old) block in
    let is : a ≡ answers mid.fsd mid.number (card_answer image command).0 (command ∷ []) = ap (λ (n : ℕ). card_hears n (by_commands image) (card_of old) block) (sym size) ∙ shows.1 (by_commands image) (λ bytes. refl) in
    let does : Answers (Send frame) fin (command ∷ []) a = subst (λ (x : Ends.Answer). Answers (Send frame) fin (command ∷ []) x) (sym is) (says (command ∷ [])) in
    let said : maybe_frame old.kind a.block ≡ Some (record { wave = wave_of_kind old.kind; bytes = frame.items }) = subst (λ (k : CardKind). maybe_frame k a.block ≡ Some (record { wave = wave_of_kind k; bytes = frame.items })) kind' does.1 in
    as_answered old fin image a (command ∷ []) (Some (record { wave = wave_of_kind old.kind; bytes = frame.items })) kind' size' does.0 does.2 said

execute_read : (old mid fin : HeldCard) (image : Image) (command : List ℕ) (frame : ArrayVec ℕ) (read : Read) → mid.fsd ≡ old.fsd → fin.kind ≡ old.kind → fin.fsd ≡ old.fsd → ((log : List (List ℕ)) → Answers (Send frame) fin log (answers mid.fsd mid.number (card_answer image command).0 log)) → ShowsRead (Execute command) old mid (card_of old) read → takes_read (party_by old image) read ≡ record { party = party_by fin (card_answer image command).1; executed = (image.number, command) ∷ []; answer = Some (record { wave = wave_of_kind old.kind; bytes = frame.items }) }
execute_read old mid fin image command frame (Reads block) size kind' size' says shows = execute_block old mid fin image command frame block size kind' size' says shows
execute_read old mid fin image command frame (Refuses fault) size kind' size' says shows = absurd (execute_isnt_mute command shows.0)

execute_by : (halted : Bool) (old mid fin : HeldCard) (image : Image) (command : List ℕ) (frame : ArrayVec ℕ) (payload : Option (List ℕ)) → mid.fsd ≡ old.fsd → fin.kind ≡ old.kind → fin.fsd ≡ old.fsd → ((log : List (List ℕ)) → Answers (Send frame) fin log (answers mid.fsd mid.number (card_answer image command).0 log)) → ShowsBy halted (Execute command) old mid payload → awake halted (party_by old image) payload ≡ record { party = party_by fin (card_answer image command).1; executed = (image.number, command) ∷ []; answer = Some (record { wave = wave_of_kind old.kind; bytes = frame.items }) }
execute_by true old mid fin image command frame None size kind' size' says shows = absurd (execute_isnt_mute command shows.0)
execute_by true old mid fin image command frame (Some message) size kind' size' says shows = absurd (execute_isnt_mute command shows.0)
execute_by false old mid fin image command frame None size kind' size' says shows = absurd (execute_isnt_mute command shows.0)
execute_by false old mid fin image command frame (Some message) size kind' size' says shows = execute_read old mid fin image command frame (read_block message) size kind' size' says shows

takes_execute : (old mid fin : HeldCard) (image : Image) (command : List ℕ) (frame : ArrayVec ℕ) (payload : Option (List ℕ)) → mid.fsd ≡ old.fsd → fin.kind ≡ old.kind → fin.fsd ≡ old.fsd → ((log : List (List ℕ)) → Answers (Send frame) fin log (answers mid.fsd mid.number (card_answer image command).0 log)) → ShowsFrame (Execute command) old mid (card_of old) payload → takes_awake (party_by old image) payload ≡ record { party = party_by fin (card_answer image command).1; executed = (image.number, command) ∷ []; answer = Some (record { wave = wave_of_kind old.kind; bytes = frame.items }) }
takes_execute old mid fin image command frame payload size kind' size' says shows = execute_by (is_halted (card_of old)) old mid fin image command frame payload size kind' size' says (shows_by (Execute command) old mid payload shows)

-- the same by the bytes that the end took and the answer that it was handed
pub takes_answered : (old mid fin : HeldCard) (image : Image) (command taken : List ℕ) (answer : Answered) (frame : ArrayVec ℕ) (payload : Option (List ℕ)) → mid.fsd ≡ old.fsd → fin.kind ≡ old.kind → fin.fsd ≡ old.fsd → command ≡ taken → answer ≡ (card_answer image command).0 → ((log : List (List ℕ)) → Answers (Send frame) fin log (answers mid.fsd mid.number answer log)) → ShowsFrame (Execute taken) old mid (card_of old) payload → takes_awake (party_by old image) payload ≡ record { party = party_by fin (card_answer image command).1; executed = (image.number, command) ∷ []; answer = Some (record { wave = wave_of_kind old.kind; bytes = frame.items }) }
takes_answered old mid fin image command taken answer frame payload size kind' size' same is says shows =
    takes_execute old mid fin image command frame payload size kind' size' (λ log. subst (λ (a : Answered). Answers (Send frame) fin log (answers mid.fsd mid.number a log)) is (says log)) (subst (λ (bytes : List ℕ). ShowsFrame (Execute bytes) old mid (card_of old) payload) (sym same) shows)
