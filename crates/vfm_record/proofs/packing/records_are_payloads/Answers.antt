-- The sizes of records are those of payloads.
use Rattle.std.proofs.Common.{refl, sym, subst}
use Rattle.vfm_packet.specs.Header.{IsVersion}
use Rattle.vfm_record.proofs.packing.records_are_payloads.Goals as goal

pub returns : goal.returns
returns c D e h r valid is carried version session below session_fits stream_fits index_fits =
    let size = c.size_of_a_record.ensures.payload D h.stream r valid is in
    record {
      head = record {
        header = record {
          version = subst IsVersion (sym version) e.known;
          session = session_fits;
          stream = stream_fits;
          index = index_fits;
          shape = rw carried (size.0, size.1);
        };
        version = version;
        session = session;
        stream = λ _. below;
      };
      len = refl;
    }
