-- `postfix::cursor::put_absorption` meets its contract: with constant 0 the absorption alone, and with constant 1 the constant, the absorption and
-- XO.
use mathlib.Core.Bool.{true}
use mathlib.Core.Path.{◌≡◌, sym}
use Prim.Native.Nat.{◌-◌}
use native.Mathlib.Omega.{arith}
use lib.Dec.{eqb}
use Rattle.rules.specs.Cleanup.{atop}
use Rattle.rules.specs.Form.{cube}
use Rattle.rules.specs.Tree.{Tree, CO, AN, XO, NO}
use Rattle.postfix.proofs.Writes.{atop-zero, atop-one, room_of, writes-of, xo, room-left, room-right, room-mark, writes-join}
use Rattle.postfix.proofs.cursor.put_absorption.Goals as goal

pub put_without-requires : goal.put_without-requires
put_without-requires c =
    let bare : Tree = AN (cube c.args.first) (NO (cube (c.args.second - c.args.first))) in
    let whole : Tree = atop (eqb c.args.constant 1) bare in
    let alone : whole ≡ bare = atop-zero c.args.constant bare c.if-constant-eq0.true in
    room_of alone c.requires.2

pub returns-then-constant-eq0 : goal.returns-then-constant-eq0
returns-then-constant-eq0 c =
    let bare : Tree = AN (cube c.args.first) (NO (cube (c.args.second - c.args.first))) in
    let whole : Tree = atop (eqb c.args.constant 1) bare in
    let alone : whole ≡ bare = atop-zero c.args.constant bare c.if-constant-eq0.true in
    writes-of (sym alone) c.put_without.ensures

pub put_constant-head-requires : goal.put_constant-head-requires
put_constant-head-requires c =
    let bare : Tree = AN (cube c.args.first) (NO (cube (c.args.second - c.args.first))) in
    let whole : Tree = atop (eqb c.args.constant 1) bare in
    let joined : whole ≡ XO (CO true) bare = atop-one c.args.constant bare c.requires.0 c.if-constant-eq0.false in
    (omega arith, room-left xo (CO true) bare (room_of joined c.requires.2))

pub put_without-body-requires : goal.put_without-body-requires
put_without-body-requires c =
    let bare : Tree = AN (cube c.args.first) (NO (cube (c.args.second - c.args.first))) in
    let whole : Tree = atop (eqb c.args.constant 1) bare in
    let joined : whole ≡ XO (CO true) bare = atop-one c.args.constant bare c.requires.0 c.if-constant-eq0.false in
    room-right xo (CO true) bare c.put_constant-head.ensures (room_of joined c.requires.2)

pub put_mark-requires : goal.put_mark-requires
put_mark-requires c =
    let bare : Tree = AN (cube c.args.first) (NO (cube (c.args.second - c.args.first))) in
    let whole : Tree = atop (eqb c.args.constant 1) bare in
    let joined : whole ≡ XO (CO true) bare = atop-one c.args.constant bare c.requires.0 c.if-constant-eq0.false in
    room-mark xo (CO true) bare c.put_constant-head.ensures c.put_without-body.ensures (room_of joined c.requires.2)

pub returns : goal.returns
returns c =
    let bare : Tree = AN (cube c.args.first) (NO (cube (c.args.second - c.args.first))) in
    let whole : Tree = atop (eqb c.args.constant 1) bare in
    let joined : whole ≡ XO (CO true) bare = atop-one c.args.constant bare c.requires.0 c.if-constant-eq0.false in
    writes-of (sym joined) (writes-join xo (CO true) bare c.put_constant-head.ensures c.put_without-body.ensures c.put_mark.ensures)
