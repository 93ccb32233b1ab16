-- Pieces pushed one after another are one text.
use Rattle.std.proofs.Common.{◌≡◌, List, ℕ, ◌++◌, append_assoc, refl}

-- the texts of a Combination's number, of the Combination, of its truths and of its TTQ
pub joined : (old p0 number p1 aid p2 kernel p3 allowed p4 status p5 zero p6 floor p7 cvm p8 ttq : List ℕ)
    → old ++ p0 ++ number ++ (p1 ++ aid ++ p2 ++ kernel) ++ (p3 ++ allowed ++ p4 ++ status ++ p5 ++ zero ++ p6 ++ floor ++ p7 ++ cvm) ++ p8 ++ ttq
    ≡ old ++ (p0 ++ number ++ p1 ++ aid ++ p2 ++ kernel ++ p3 ++ allowed ++ p4 ++ status ++ p5 ++ zero ++ p6 ++ floor ++ p7 ++ cvm ++ p8 ++ ttq)
joined old p0 number p1 aid p2 kernel p3 allowed p4 status p5 zero p6 floor p7 cvm p8 ttq = simp append_assoc refl
