-- What the cards of a load answer (the objects are those of EMV Book B).
use Rattle.std.specs.Prelude.{ℕ, List, [], ◌∷◌, ◌++◌, length}
use Rattle.ep_base.specs.Cards.Apdu.{ppse_name}
use Rattle.ep_base.specs.Objects.Forest.{Forest, nothing, primitive, constructed, spelling}

-- An object whose length is one byte, before others (after EMV Contactless Book B).
abbrev pub short_value : List ℕ → List ℕ → Forest → Forest
short_value tag value rest = primitive tag (length value ∷ []) value rest

-- An object of this kind with objects in it, and nothing after it (after EMV Contactless Book B).
abbrev pub short_template : List ℕ → Forest → Forest
short_template tag inner = constructed tag (length (spelling inner) ∷ []) inner nothing

-- The status word 9000 (after EMV Contactless Book B).
abbrev pub succeeded : List ℕ
succeeded = 0x90 ∷ 0x00 ∷ []

-- A directory with one entry: a name, with priority 1 (after EMV Contactless Book B).
abbrev pub directory_of : List ℕ → Forest
directory_of name =
    short_template (0x6f ∷ []) (short_value (0x84 ∷ []) ppse_name (
    short_template (0xa5 ∷ []) (short_template (0xbf ∷ 0x0c ∷ []) (
    short_template (0x61 ∷ []) (short_value (0x4f ∷ []) name (short_value (0x87 ∷ []) (0x01 ∷ []) nothing))))))

-- The response to SELECT PPSE (after EMV Contactless Book B).
abbrev pub ppse_response : List ℕ → List ℕ
ppse_response name = spelling (directory_of name) ++ succeeded

-- The response to the SELECT of the application with this name (after EMV Contactless Book B).
abbrev pub select_response : List ℕ → List ℕ
select_response name = spelling (short_template (0x6f ∷ []) (short_value (0x84 ∷ []) name nothing)) ++ succeeded

-- The response to the kernel's command (this project's own).
abbrev pub kernel_response : List ℕ
kernel_response = 0x80 ∷ 0x06 ∷ 0x20 ∷ 0x00 ∷ 0x08 ∷ 0x01 ∷ 0x01 ∷ 0x00 ∷ 0x90 ∷ 0x00 ∷ []

-- How the kernel's command begins (after EMV Contactless Book B).
abbrev pub kernel_prefix : List ℕ
kernel_prefix = 0x80 ∷ 0xa8 ∷ []
