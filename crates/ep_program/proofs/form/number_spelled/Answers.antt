use Rattle.std.proofs.Common.{◌≡◌, ◌≤◌, length, true, Ok, arith}
use Rattle.std.specs.Str.{all_ascii_digits}
use Rattle.std.specs.Str.Parse.{digits_value}
use Rattle.ep_program.proofs.Numbers.{parsed}
use Rattle.ep_program.proofs.form.number_spelled.Goals as goal

pub returns-in-Err : goal.returns-in-Err
returns-in-Err c =
    let some : 1 ≤ length c.args.digits.now = omega arith in
    let few : length c.args.digits.now ≤ 9 = omega arith in
    let all : all_ascii_digits c.args.digits.now ≡ true = cc in
    let is : c.parse.result ≡ Ok (digits_value 10 c.args.digits.now) = parsed c.args.digits.now c.parse.result c.parse.ensures.value.0 some few all in
    cc
