use Rattle.inventory_tests.proofs.LawfulTags.{not_true, four_uid, seven_uid, ten_uid, all_bytes}
use Rattle.inventory_tests.proofs.inventories.is_uid.Goals as goal

pub returns-in-4 : goal.returns-in-4
returns-in-4 c = λ h. (four_uid c.args.uid.now c.in-4.is (not_true _ h), all_bytes c.args.uid.now c.type_inv.uid)

pub returns-in-7 : goal.returns-in-7
returns-in-7 c = λ h. (seven_uid c.args.uid.now c.in-7.is (not_true _ h), all_bytes c.args.uid.now c.type_inv.uid)

pub returns-in-10 : goal.returns-in-10
returns-in-10 c = λ h. (ten_uid c.args.uid.now c.in-10.is, all_bytes c.args.uid.now c.type_inv.uid)
