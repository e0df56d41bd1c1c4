-- Each part stands behind the one before it.
use Rattle.std.proofs.Common.{◌++◌, codes, refl}
use Rattle.gp_decode.proofs.Appending.{appends_second}
use Rattle.gp_finding.proofs.Pieces.{fails, still}
use Rattle.gp_watch.specs.Heard.{heard_of}
use Rattle.gp_finding.specs.Object.{head_fields, onu_field, serial_field, text_or_null}
use Rattle.gp_finding.specs.Reason.{reason_text}
use Rattle.gp_finding.specs.Words.{onu_in, serial_told, words_of}
use Rattle.gp_finding.proofs.Telling.{onu_as, serial_as}
use Rattle.gp_finding.proofs.object.push_finding_object.Goals as goal

pub returns-in_err-push_head : goal.returns-in_err-push_head
returns-in_err-push_head c =
    still (head_fields c.args.place.now (heard_of c.args.heard.now) c.args.rule ++ text_or_null (words_of (heard_of c.args.heard.now)) ++ onu_field (onu_in (heard_of c.args.heard.now)) ++ serial_field (serial_told c.args.watch.now (heard_of c.args.heard.now)) ++ codes ",\"why\":\"" ++ reason_text c.args.why) (codes "\"}\n") _ _ _ _ c.from_residual.ensures.1
    (still (head_fields c.args.place.now (heard_of c.args.heard.now) c.args.rule ++ text_or_null (words_of (heard_of c.args.heard.now)) ++ onu_field (onu_in (heard_of c.args.heard.now)) ++ serial_field (serial_told c.args.watch.now (heard_of c.args.heard.now)) ++ codes ",\"why\":\"") (reason_text c.args.why) _ _ _ _ c.from_residual.ensures.1
    (still (head_fields c.args.place.now (heard_of c.args.heard.now) c.args.rule ++ text_or_null (words_of (heard_of c.args.heard.now)) ++ onu_field (onu_in (heard_of c.args.heard.now)) ++ serial_field (serial_told c.args.watch.now (heard_of c.args.heard.now))) (codes ",\"why\":\"") _ _ _ _ c.from_residual.ensures.1
    (still (head_fields c.args.place.now (heard_of c.args.heard.now) c.args.rule ++ text_or_null (words_of (heard_of c.args.heard.now)) ++ onu_field (onu_in (heard_of c.args.heard.now))) (serial_field (serial_told c.args.watch.now (heard_of c.args.heard.now))) _ _ _ _ c.from_residual.ensures.1
    (still (head_fields c.args.place.now (heard_of c.args.heard.now) c.args.rule ++ text_or_null (words_of (heard_of c.args.heard.now))) (onu_field (onu_in (heard_of c.args.heard.now))) _ _ _ _ c.from_residual.ensures.1
    (still (head_fields c.args.place.now (heard_of c.args.heard.now) c.args.rule) (text_or_null (words_of (heard_of c.args.heard.now))) _ _ _ _ c.from_residual.ensures.1
    (fails (head_fields c.args.place.now (heard_of c.args.heard.now) c.args.rule) _ _ _ _ c.in_err-push_head.field-0.0 _ c.in_err-push_head.was c.from_residual.ensures.1
    (c.push_head.ensures)))))))

pub returns-in_err-push_message : goal.returns-in_err-push_message
returns-in_err-push_message c =
    still (head_fields c.args.place.now (heard_of c.args.heard.now) c.args.rule ++ text_or_null (words_of (heard_of c.args.heard.now)) ++ onu_field (onu_in (heard_of c.args.heard.now)) ++ serial_field (serial_told c.args.watch.now (heard_of c.args.heard.now)) ++ codes ",\"why\":\"" ++ reason_text c.args.why) (codes "\"}\n") _ _ _ _ c.from_residual-in_err-push_message.ensures.1
    (still (head_fields c.args.place.now (heard_of c.args.heard.now) c.args.rule ++ text_or_null (words_of (heard_of c.args.heard.now)) ++ onu_field (onu_in (heard_of c.args.heard.now)) ++ serial_field (serial_told c.args.watch.now (heard_of c.args.heard.now)) ++ codes ",\"why\":\"") (reason_text c.args.why) _ _ _ _ c.from_residual-in_err-push_message.ensures.1
    (still (head_fields c.args.place.now (heard_of c.args.heard.now) c.args.rule ++ text_or_null (words_of (heard_of c.args.heard.now)) ++ onu_field (onu_in (heard_of c.args.heard.now)) ++ serial_field (serial_told c.args.watch.now (heard_of c.args.heard.now))) (codes ",\"why\":\"") _ _ _ _ c.from_residual-in_err-push_message.ensures.1
    (still (head_fields c.args.place.now (heard_of c.args.heard.now) c.args.rule ++ text_or_null (words_of (heard_of c.args.heard.now)) ++ onu_field (onu_in (heard_of c.args.heard.now))) (serial_field (serial_told c.args.watch.now (heard_of c.args.heard.now))) _ _ _ _ c.from_residual-in_err-push_message.ensures.1
    (still (head_fields c.args.place.now (heard_of c.args.heard.now) c.args.rule ++ text_or_null (words_of (heard_of c.args.heard.now))) (onu_field (onu_in (heard_of c.args.heard.now))) _ _ _ _ c.from_residual-in_err-push_message.ensures.1
    (fails (head_fields c.args.place.now (heard_of c.args.heard.now) c.args.rule ++ text_or_null (words_of (heard_of c.args.heard.now))) _ _ _ _ c.in_err-push_message.field-0.0 _ c.in_err-push_message.was c.from_residual-in_err-push_message.ensures.1
    (appends_second (head_fields c.args.place.now (heard_of c.args.heard.now) c.args.rule ++ text_or_null (words_of (heard_of c.args.heard.now))) (head_fields c.args.place.now (heard_of c.args.heard.now) c.args.rule) (text_or_null (words_of (heard_of c.args.heard.now))) _ _ _ _ _ c.in_ok-push_head.field-0 refl c.in_ok-push_head.was
    (c.push_head.ensures)
    c.push_message.ensures))))))

pub returns-in_err-push_onu : goal.returns-in_err-push_onu
returns-in_err-push_onu c =
    still (head_fields c.args.place.now (heard_of c.args.heard.now) c.args.rule ++ text_or_null (words_of (heard_of c.args.heard.now)) ++ onu_field (onu_in (heard_of c.args.heard.now)) ++ serial_field (serial_told c.args.watch.now (heard_of c.args.heard.now)) ++ codes ",\"why\":\"" ++ reason_text c.args.why) (codes "\"}\n") _ _ _ _ c.from_residual-in_err-push_onu.ensures.1
    (still (head_fields c.args.place.now (heard_of c.args.heard.now) c.args.rule ++ text_or_null (words_of (heard_of c.args.heard.now)) ++ onu_field (onu_in (heard_of c.args.heard.now)) ++ serial_field (serial_told c.args.watch.now (heard_of c.args.heard.now)) ++ codes ",\"why\":\"") (reason_text c.args.why) _ _ _ _ c.from_residual-in_err-push_onu.ensures.1
    (still (head_fields c.args.place.now (heard_of c.args.heard.now) c.args.rule ++ text_or_null (words_of (heard_of c.args.heard.now)) ++ onu_field (onu_in (heard_of c.args.heard.now)) ++ serial_field (serial_told c.args.watch.now (heard_of c.args.heard.now))) (codes ",\"why\":\"") _ _ _ _ c.from_residual-in_err-push_onu.ensures.1
    (still (head_fields c.args.place.now (heard_of c.args.heard.now) c.args.rule ++ text_or_null (words_of (heard_of c.args.heard.now)) ++ onu_field (onu_in (heard_of c.args.heard.now))) (serial_field (serial_told c.args.watch.now (heard_of c.args.heard.now))) _ _ _ _ c.from_residual-in_err-push_onu.ensures.1
    (fails (head_fields c.args.place.now (heard_of c.args.heard.now) c.args.rule ++ text_or_null (words_of (heard_of c.args.heard.now)) ++ onu_field (onu_in (heard_of c.args.heard.now))) _ _ _ _ c.in_err-push_onu.field-0.0 _ c.in_err-push_onu.was c.from_residual-in_err-push_onu.ensures.1
    (appends_second (head_fields c.args.place.now (heard_of c.args.heard.now) c.args.rule ++ text_or_null (words_of (heard_of c.args.heard.now)) ++ onu_field (onu_in (heard_of c.args.heard.now))) (head_fields c.args.place.now (heard_of c.args.heard.now) c.args.rule ++ text_or_null (words_of (heard_of c.args.heard.now))) (onu_field (onu_in (heard_of c.args.heard.now))) _ _ _ _ _ c.in_ok-push_message.field-0 refl c.in_ok-push_message.was
    (appends_second (head_fields c.args.place.now (heard_of c.args.heard.now) c.args.rule ++ text_or_null (words_of (heard_of c.args.heard.now))) (head_fields c.args.place.now (heard_of c.args.heard.now) c.args.rule) (text_or_null (words_of (heard_of c.args.heard.now))) _ _ _ _ _ c.in_ok-push_head.field-0 refl c.in_ok-push_head.was
    (c.push_head.ensures)
    c.push_message.ensures)
    (onu_as _ _ _ _ _ c.onu_in.ensures c.push_onu.ensures))))))

pub returns-in_err-push_serial : goal.returns-in_err-push_serial
returns-in_err-push_serial c =
    still (head_fields c.args.place.now (heard_of c.args.heard.now) c.args.rule ++ text_or_null (words_of (heard_of c.args.heard.now)) ++ onu_field (onu_in (heard_of c.args.heard.now)) ++ serial_field (serial_told c.args.watch.now (heard_of c.args.heard.now)) ++ codes ",\"why\":\"" ++ reason_text c.args.why) (codes "\"}\n") _ _ _ _ c.from_residual-in_err-push_serial.ensures.1
    (still (head_fields c.args.place.now (heard_of c.args.heard.now) c.args.rule ++ text_or_null (words_of (heard_of c.args.heard.now)) ++ onu_field (onu_in (heard_of c.args.heard.now)) ++ serial_field (serial_told c.args.watch.now (heard_of c.args.heard.now)) ++ codes ",\"why\":\"") (reason_text c.args.why) _ _ _ _ c.from_residual-in_err-push_serial.ensures.1
    (still (head_fields c.args.place.now (heard_of c.args.heard.now) c.args.rule ++ text_or_null (words_of (heard_of c.args.heard.now)) ++ onu_field (onu_in (heard_of c.args.heard.now)) ++ serial_field (serial_told c.args.watch.now (heard_of c.args.heard.now))) (codes ",\"why\":\"") _ _ _ _ c.from_residual-in_err-push_serial.ensures.1
    (fails (head_fields c.args.place.now (heard_of c.args.heard.now) c.args.rule ++ text_or_null (words_of (heard_of c.args.heard.now)) ++ onu_field (onu_in (heard_of c.args.heard.now)) ++ serial_field (serial_told c.args.watch.now (heard_of c.args.heard.now))) _ _ _ _ c.in_err-push_serial.field-0.0 _ c.in_err-push_serial.was c.from_residual-in_err-push_serial.ensures.1
    (appends_second (head_fields c.args.place.now (heard_of c.args.heard.now) c.args.rule ++ text_or_null (words_of (heard_of c.args.heard.now)) ++ onu_field (onu_in (heard_of c.args.heard.now)) ++ serial_field (serial_told c.args.watch.now (heard_of c.args.heard.now))) (head_fields c.args.place.now (heard_of c.args.heard.now) c.args.rule ++ text_or_null (words_of (heard_of c.args.heard.now)) ++ onu_field (onu_in (heard_of c.args.heard.now))) (serial_field (serial_told c.args.watch.now (heard_of c.args.heard.now))) _ _ _ _ _ c.in_ok-push_onu.field-0 refl c.in_ok-push_onu.was
    (appends_second (head_fields c.args.place.now (heard_of c.args.heard.now) c.args.rule ++ text_or_null (words_of (heard_of c.args.heard.now)) ++ onu_field (onu_in (heard_of c.args.heard.now))) (head_fields c.args.place.now (heard_of c.args.heard.now) c.args.rule ++ text_or_null (words_of (heard_of c.args.heard.now))) (onu_field (onu_in (heard_of c.args.heard.now))) _ _ _ _ _ c.in_ok-push_message.field-0 refl c.in_ok-push_message.was
    (appends_second (head_fields c.args.place.now (heard_of c.args.heard.now) c.args.rule ++ text_or_null (words_of (heard_of c.args.heard.now))) (head_fields c.args.place.now (heard_of c.args.heard.now) c.args.rule) (text_or_null (words_of (heard_of c.args.heard.now))) _ _ _ _ _ c.in_ok-push_head.field-0 refl c.in_ok-push_head.was
    (c.push_head.ensures)
    c.push_message.ensures)
    (onu_as _ _ _ _ _ c.onu_in.ensures c.push_onu.ensures))
    (serial_as _ _ _ _ _ c.serial_told.ensures c.push_serial.ensures)))))

pub returns-in_err-push_pieces : goal.returns-in_err-push_pieces
returns-in_err-push_pieces c =
    still (head_fields c.args.place.now (heard_of c.args.heard.now) c.args.rule ++ text_or_null (words_of (heard_of c.args.heard.now)) ++ onu_field (onu_in (heard_of c.args.heard.now)) ++ serial_field (serial_told c.args.watch.now (heard_of c.args.heard.now)) ++ codes ",\"why\":\"" ++ reason_text c.args.why) (codes "\"}\n") _ _ _ _ c.from_residual-in_err-push_pieces.ensures.1
    (still (head_fields c.args.place.now (heard_of c.args.heard.now) c.args.rule ++ text_or_null (words_of (heard_of c.args.heard.now)) ++ onu_field (onu_in (heard_of c.args.heard.now)) ++ serial_field (serial_told c.args.watch.now (heard_of c.args.heard.now)) ++ codes ",\"why\":\"") (reason_text c.args.why) _ _ _ _ c.from_residual-in_err-push_pieces.ensures.1
    (fails (head_fields c.args.place.now (heard_of c.args.heard.now) c.args.rule ++ text_or_null (words_of (heard_of c.args.heard.now)) ++ onu_field (onu_in (heard_of c.args.heard.now)) ++ serial_field (serial_told c.args.watch.now (heard_of c.args.heard.now)) ++ codes ",\"why\":\"") _ _ _ _ c.in_err-push_pieces.field-0.0 _ c.in_err-push_pieces.was c.from_residual-in_err-push_pieces.ensures.1
    (appends_second (head_fields c.args.place.now (heard_of c.args.heard.now) c.args.rule ++ text_or_null (words_of (heard_of c.args.heard.now)) ++ onu_field (onu_in (heard_of c.args.heard.now)) ++ serial_field (serial_told c.args.watch.now (heard_of c.args.heard.now)) ++ codes ",\"why\":\"") (head_fields c.args.place.now (heard_of c.args.heard.now) c.args.rule ++ text_or_null (words_of (heard_of c.args.heard.now)) ++ onu_field (onu_in (heard_of c.args.heard.now)) ++ serial_field (serial_told c.args.watch.now (heard_of c.args.heard.now))) (codes ",\"why\":\"") _ _ _ _ _ c.in_ok-push_serial.field-0 refl c.in_ok-push_serial.was
    (appends_second (head_fields c.args.place.now (heard_of c.args.heard.now) c.args.rule ++ text_or_null (words_of (heard_of c.args.heard.now)) ++ onu_field (onu_in (heard_of c.args.heard.now)) ++ serial_field (serial_told c.args.watch.now (heard_of c.args.heard.now))) (head_fields c.args.place.now (heard_of c.args.heard.now) c.args.rule ++ text_or_null (words_of (heard_of c.args.heard.now)) ++ onu_field (onu_in (heard_of c.args.heard.now))) (serial_field (serial_told c.args.watch.now (heard_of c.args.heard.now))) _ _ _ _ _ c.in_ok-push_onu.field-0 refl c.in_ok-push_onu.was
    (appends_second (head_fields c.args.place.now (heard_of c.args.heard.now) c.args.rule ++ text_or_null (words_of (heard_of c.args.heard.now)) ++ onu_field (onu_in (heard_of c.args.heard.now))) (head_fields c.args.place.now (heard_of c.args.heard.now) c.args.rule ++ text_or_null (words_of (heard_of c.args.heard.now))) (onu_field (onu_in (heard_of c.args.heard.now))) _ _ _ _ _ c.in_ok-push_message.field-0 refl c.in_ok-push_message.was
    (appends_second (head_fields c.args.place.now (heard_of c.args.heard.now) c.args.rule ++ text_or_null (words_of (heard_of c.args.heard.now))) (head_fields c.args.place.now (heard_of c.args.heard.now) c.args.rule) (text_or_null (words_of (heard_of c.args.heard.now))) _ _ _ _ _ c.in_ok-push_head.field-0 refl c.in_ok-push_head.was
    (c.push_head.ensures)
    c.push_message.ensures)
    (onu_as _ _ _ _ _ c.onu_in.ensures c.push_onu.ensures))
    (serial_as _ _ _ _ _ c.serial_told.ensures c.push_serial.ensures))
    c.push_pieces.ensures)))

pub returns-in_err-push_reason : goal.returns-in_err-push_reason
returns-in_err-push_reason c =
    still (head_fields c.args.place.now (heard_of c.args.heard.now) c.args.rule ++ text_or_null (words_of (heard_of c.args.heard.now)) ++ onu_field (onu_in (heard_of c.args.heard.now)) ++ serial_field (serial_told c.args.watch.now (heard_of c.args.heard.now)) ++ codes ",\"why\":\"" ++ reason_text c.args.why) (codes "\"}\n") _ _ _ _ c.from_residual-in_err-push_reason.ensures.1
    (fails (head_fields c.args.place.now (heard_of c.args.heard.now) c.args.rule ++ text_or_null (words_of (heard_of c.args.heard.now)) ++ onu_field (onu_in (heard_of c.args.heard.now)) ++ serial_field (serial_told c.args.watch.now (heard_of c.args.heard.now)) ++ codes ",\"why\":\"" ++ reason_text c.args.why) _ _ _ _ c.in_err-push_reason.field-0.0 _ c.in_err-push_reason.was c.from_residual-in_err-push_reason.ensures.1
    (appends_second (head_fields c.args.place.now (heard_of c.args.heard.now) c.args.rule ++ text_or_null (words_of (heard_of c.args.heard.now)) ++ onu_field (onu_in (heard_of c.args.heard.now)) ++ serial_field (serial_told c.args.watch.now (heard_of c.args.heard.now)) ++ codes ",\"why\":\"" ++ reason_text c.args.why) (head_fields c.args.place.now (heard_of c.args.heard.now) c.args.rule ++ text_or_null (words_of (heard_of c.args.heard.now)) ++ onu_field (onu_in (heard_of c.args.heard.now)) ++ serial_field (serial_told c.args.watch.now (heard_of c.args.heard.now)) ++ codes ",\"why\":\"") (reason_text c.args.why) _ _ _ _ _ c.in_ok-push_pieces.field-0 refl c.in_ok-push_pieces.was
    (appends_second (head_fields c.args.place.now (heard_of c.args.heard.now) c.args.rule ++ text_or_null (words_of (heard_of c.args.heard.now)) ++ onu_field (onu_in (heard_of c.args.heard.now)) ++ serial_field (serial_told c.args.watch.now (heard_of c.args.heard.now)) ++ codes ",\"why\":\"") (head_fields c.args.place.now (heard_of c.args.heard.now) c.args.rule ++ text_or_null (words_of (heard_of c.args.heard.now)) ++ onu_field (onu_in (heard_of c.args.heard.now)) ++ serial_field (serial_told c.args.watch.now (heard_of c.args.heard.now))) (codes ",\"why\":\"") _ _ _ _ _ c.in_ok-push_serial.field-0 refl c.in_ok-push_serial.was
    (appends_second (head_fields c.args.place.now (heard_of c.args.heard.now) c.args.rule ++ text_or_null (words_of (heard_of c.args.heard.now)) ++ onu_field (onu_in (heard_of c.args.heard.now)) ++ serial_field (serial_told c.args.watch.now (heard_of c.args.heard.now))) (head_fields c.args.place.now (heard_of c.args.heard.now) c.args.rule ++ text_or_null (words_of (heard_of c.args.heard.now)) ++ onu_field (onu_in (heard_of c.args.heard.now))) (serial_field (serial_told c.args.watch.now (heard_of c.args.heard.now))) _ _ _ _ _ c.in_ok-push_onu.field-0 refl c.in_ok-push_onu.was
    (appends_second (head_fields c.args.place.now (heard_of c.args.heard.now) c.args.rule ++ text_or_null (words_of (heard_of c.args.heard.now)) ++ onu_field (onu_in (heard_of c.args.heard.now))) (head_fields c.args.place.now (heard_of c.args.heard.now) c.args.rule ++ text_or_null (words_of (heard_of c.args.heard.now))) (onu_field (onu_in (heard_of c.args.heard.now))) _ _ _ _ _ c.in_ok-push_message.field-0 refl c.in_ok-push_message.was
    (appends_second (head_fields c.args.place.now (heard_of c.args.heard.now) c.args.rule ++ text_or_null (words_of (heard_of c.args.heard.now))) (head_fields c.args.place.now (heard_of c.args.heard.now) c.args.rule) (text_or_null (words_of (heard_of c.args.heard.now))) _ _ _ _ _ c.in_ok-push_head.field-0 refl c.in_ok-push_head.was
    (c.push_head.ensures)
    c.push_message.ensures)
    (onu_as _ _ _ _ _ c.onu_in.ensures c.push_onu.ensures))
    (serial_as _ _ _ _ _ c.serial_told.ensures c.push_serial.ensures))
    c.push_pieces.ensures)
    c.push_reason.ensures))

pub returns : goal.returns
returns c =
    appends_second (head_fields c.args.place.now (heard_of c.args.heard.now) c.args.rule ++ text_or_null (words_of (heard_of c.args.heard.now)) ++ onu_field (onu_in (heard_of c.args.heard.now)) ++ serial_field (serial_told c.args.watch.now (heard_of c.args.heard.now)) ++ codes ",\"why\":\"" ++ reason_text c.args.why ++ codes "\"}\n") (head_fields c.args.place.now (heard_of c.args.heard.now) c.args.rule ++ text_or_null (words_of (heard_of c.args.heard.now)) ++ onu_field (onu_in (heard_of c.args.heard.now)) ++ serial_field (serial_told c.args.watch.now (heard_of c.args.heard.now)) ++ codes ",\"why\":\"" ++ reason_text c.args.why) (codes "\"}\n") _ _ _ _ _ c.in_ok-push_reason.field-0 refl c.in_ok-push_reason.was
    (appends_second (head_fields c.args.place.now (heard_of c.args.heard.now) c.args.rule ++ text_or_null (words_of (heard_of c.args.heard.now)) ++ onu_field (onu_in (heard_of c.args.heard.now)) ++ serial_field (serial_told c.args.watch.now (heard_of c.args.heard.now)) ++ codes ",\"why\":\"" ++ reason_text c.args.why) (head_fields c.args.place.now (heard_of c.args.heard.now) c.args.rule ++ text_or_null (words_of (heard_of c.args.heard.now)) ++ onu_field (onu_in (heard_of c.args.heard.now)) ++ serial_field (serial_told c.args.watch.now (heard_of c.args.heard.now)) ++ codes ",\"why\":\"") (reason_text c.args.why) _ _ _ _ _ c.in_ok-push_pieces.field-0 refl c.in_ok-push_pieces.was
    (appends_second (head_fields c.args.place.now (heard_of c.args.heard.now) c.args.rule ++ text_or_null (words_of (heard_of c.args.heard.now)) ++ onu_field (onu_in (heard_of c.args.heard.now)) ++ serial_field (serial_told c.args.watch.now (heard_of c.args.heard.now)) ++ codes ",\"why\":\"") (head_fields c.args.place.now (heard_of c.args.heard.now) c.args.rule ++ text_or_null (words_of (heard_of c.args.heard.now)) ++ onu_field (onu_in (heard_of c.args.heard.now)) ++ serial_field (serial_told c.args.watch.now (heard_of c.args.heard.now))) (codes ",\"why\":\"") _ _ _ _ _ c.in_ok-push_serial.field-0 refl c.in_ok-push_serial.was
    (appends_second (head_fields c.args.place.now (heard_of c.args.heard.now) c.args.rule ++ text_or_null (words_of (heard_of c.args.heard.now)) ++ onu_field (onu_in (heard_of c.args.heard.now)) ++ serial_field (serial_told c.args.watch.now (heard_of c.args.heard.now))) (head_fields c.args.place.now (heard_of c.args.heard.now) c.args.rule ++ text_or_null (words_of (heard_of c.args.heard.now)) ++ onu_field (onu_in (heard_of c.args.heard.now))) (serial_field (serial_told c.args.watch.now (heard_of c.args.heard.now))) _ _ _ _ _ c.in_ok-push_onu.field-0 refl c.in_ok-push_onu.was
    (appends_second (head_fields c.args.place.now (heard_of c.args.heard.now) c.args.rule ++ text_or_null (words_of (heard_of c.args.heard.now)) ++ onu_field (onu_in (heard_of c.args.heard.now))) (head_fields c.args.place.now (heard_of c.args.heard.now) c.args.rule ++ text_or_null (words_of (heard_of c.args.heard.now))) (onu_field (onu_in (heard_of c.args.heard.now))) _ _ _ _ _ c.in_ok-push_message.field-0 refl c.in_ok-push_message.was
    (appends_second (head_fields c.args.place.now (heard_of c.args.heard.now) c.args.rule ++ text_or_null (words_of (heard_of c.args.heard.now))) (head_fields c.args.place.now (heard_of c.args.heard.now) c.args.rule) (text_or_null (words_of (heard_of c.args.heard.now))) _ _ _ _ _ c.in_ok-push_head.field-0 refl c.in_ok-push_head.was
    (c.push_head.ensures)
    c.push_message.ensures)
    (onu_as _ _ _ _ _ c.onu_in.ensures c.push_onu.ensures))
    (serial_as _ _ _ _ _ c.serial_told.ensures c.push_serial.ensures))
    c.push_pieces.ensures)
    c.push_reason.ensures)
    c.push_pieces-2.ensures
