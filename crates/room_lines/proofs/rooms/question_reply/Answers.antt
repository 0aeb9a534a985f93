use Rattle.std.proofs.Common.{subst, Result}
use Rattle.std.proofs.lemmas.Result.{IfOk-weaker}
use Rattle.eon_model.specs.RoomAnswers.{RepliesTo}
use Rattle.eon_model.specs.RoomCommands.{RoomCommand}
use Rattle.eon_model.specs.Services.{Path}
use Rattle.room_lines.specs.declared.reply.RoomReply.{RoomReply}
use Rattle.room_lines.specs.Asking.{IsBlockFor}
use Rattle.room_lines.specs.Replied.{reply_told, TellsRoom}
use Rattle.room_lines.specs.Told.{question_told}
use Rattle.room_lines.proofs.ReplyLaws.{fault-replied, block-replied}
use Rattle.room_lines.proofs.rooms.question_reply.Goals as goal

pub returns-in-Ok : goal.returns-in-Ok
returns-in-Ok c =
    let setup = c.args.setup.now in
    let state = c.args.services.now.list in
    let q = question_told c.args.question.now in
    let asks = subst (λ (r : Result Path RoomReply). IsBlockFor setup q r) c.in-Ok.is c.in_ok-block.ensures in
    IfOk-weaker c.block_reply.result (TellsRoom setup.band state c.in-Ok.block)
    (λ r. RepliesTo setup state (RoomCommand.Room q) (reply_told r))
    (λ r h. block-replied setup state q c.requires.in_range c.requires.legal c.in-Ok.block asks r h) c.block_reply.ensures

pub returns-in-Err : goal.returns-in-Err
returns-in-Err c =
    let setup = c.args.setup.now in
    let q = question_told c.args.question.now in
    fault-replied setup c.args.services.now.list q c.in-Err.reply
    (subst (λ (r : Result Path RoomReply). IsBlockFor setup q r) c.in-Err.is c.in_ok-block.ensures)
