-- `postfix::cursor::put_family` meets its contract: with constant 0 the chain alone, and with constant 1 the constant, the chain and XO.
use mathlib.Core.Bool.{true}
use mathlib.Core.Path.{◌≡◌, sym}
use native.Mathlib.Omega.{arith}
use lib.Dec.{eqb}
use Rattle.rules.specs.Cleanup.{atop}
use Rattle.rules.specs.Form.{or_chain}
use Rattle.rules.specs.Tree.{Tree, CO, XO}
use Rattle.postfix.proofs.Writes.{atop-zero, atop-one, room_of, writes-of, xo, room-left, room-right, room-mark, writes-join}
use Rattle.postfix.proofs.cursor.put_family.Goals as goal

pub put_or_chain-requires : goal.put_or_chain-requires
put_or_chain-requires c =
    let bare : Tree = or_chain c.args.mask in
    let whole : Tree = atop (eqb c.args.constant 1) bare in
    let alone : whole ≡ bare = atop-zero c.args.constant bare c.if-constant-eq0.true in
    (c.requires.1, room_of alone c.requires.2)

pub returns-then-constant-eq0 : goal.returns-then-constant-eq0
returns-then-constant-eq0 c =
    let bare : Tree = or_chain c.args.mask in
    let whole : Tree = atop (eqb c.args.constant 1) bare in
    let alone : whole ≡ bare = atop-zero c.args.constant bare c.if-constant-eq0.true in
    writes-of (sym alone) c.put_or_chain.ensures

pub put_constant-one-requires : goal.put_constant-one-requires
put_constant-one-requires c =
    let bare : Tree = or_chain c.args.mask in
    let whole : Tree = atop (eqb c.args.constant 1) bare in
    let joined : whole ≡ XO (CO true) bare = atop-one c.args.constant bare c.requires.0 c.if-constant-eq0.false in
    (omega arith, room-left xo (CO true) bare (room_of joined c.requires.2))

pub put_or_chain-chain-requires : goal.put_or_chain-chain-requires
put_or_chain-chain-requires c =
    let bare : Tree = or_chain c.args.mask in
    let whole : Tree = atop (eqb c.args.constant 1) bare in
    let joined : whole ≡ XO (CO true) bare = atop-one c.args.constant bare c.requires.0 c.if-constant-eq0.false in
    (c.requires.1, room-right xo (CO true) bare c.put_constant-one.ensures (room_of joined c.requires.2))

pub put_mark-requires : goal.put_mark-requires
put_mark-requires c =
    let bare : Tree = or_chain c.args.mask in
    let whole : Tree = atop (eqb c.args.constant 1) bare in
    let joined : whole ≡ XO (CO true) bare = atop-one c.args.constant bare c.requires.0 c.if-constant-eq0.false in
    room-mark xo (CO true) bare c.put_constant-one.ensures c.put_or_chain-chain.ensures (room_of joined c.requires.2)

pub returns : goal.returns
returns c =
    let bare : Tree = or_chain c.args.mask in
    let whole : Tree = atop (eqb c.args.constant 1) bare in
    let joined : whole ≡ XO (CO true) bare = atop-one c.args.constant bare c.requires.0 c.if-constant-eq0.false in
    writes-of (sym joined) (writes-join xo (CO true) bare c.put_constant-one.ensures c.put_or_chain-chain.ensures c.put_mark.ensures)
