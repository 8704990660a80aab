-- `table::Table::bit` meets its contract: the shifted word's lowest digit is the setting's bit (bits, Quotient).
use Rattle.bits.specs.Bit.{bit}
use Rattle.bits.proofs.Bit.{digit-is}
use Rattle.bits.proofs.Quotient.{shift-digit}
use Rattle.table.proofs.Table.bit.Goals as goal

pub returns : goal.returns
returns c =
    let a = c.args in
    digit-is (bit a.self.bits a.setting) _ (shift-digit a.self.bits a.setting)
