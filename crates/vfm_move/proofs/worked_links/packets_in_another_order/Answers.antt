-- Each channel begins soundly and has its end, and one exchange gives the order in which they were sent.
use Rattle.std.proofs.Common.{◌≡◌, ◌∷◌, [], ◌++◌, true, List, ℕ, refl, sym, subst, inl, arith}
use Rattle.std.specs.Prelude.{All}
use Rattle.std.specs.List.Sorted.{IsPermutation}
use Rattle.std.proofs.Math.Nat.{le_refl, le-suc}
use Rattle.std.proofs.lemmas.List.Elements.{All-cons, All-nil}
use Rattle.vfm_base.specs.Words.{word_at}
use Rattle.vfm_packet.specs.Header.{head_bytes}
use Rattle.vfm_packet.specs.Sound.{head_fault}
use Rattle.vfm_packet.specs.Answer.{decoded}
use Rattle.vfm_packet.specs.Channel.{channel_limit}
use Rattle.vfm_packet.specs.Reading.{reading_of}
use Rattle.vfm_packet.specs.Channel.{IsCarried}
use Rattle.vfm_packet.specs.Packet.{IsSoundPacket, Packet, packet_bytes}
use Rattle.vfm_packet.specs.Worked.{config_packet, data_packet, end_packet as end_bytes}
use Rattle.vfm_move.specs.Contact.{Line}
use Rattle.vfm_move.specs.Carried.{IsFront, expected}
use Rattle.vfm_move.specs.Complete.{BeginsSoundly, HasEnd, IsPieceOf, end_packet, packets_received, packets_sent, piece_in}
use Rattle.vfm_move.specs.Worked.{one}
use Rattle.vfm_move.specs.WorkedLinks.{config_of, crossed, data_of, receives}
use Rattle.vfm_move.proofs.Cases.{all_is_front, nothing_is_front}
use Rattle.vfm_move.proofs.worked_links.packets_in_another_order.Goals as goal

data_sound : IsCarried (expected one) data_of
data_sound =
    record {
      sound = record {
        head = record {
          header = record {
            version = (le_refl 1, le-suc 1);
            session = omega arith;
            stream = omega arith;
            index = omega arith;
            shape = (omega arith, omega arith);
          };
          version = refl;
          session = refl;
          stream = λ _. omega arith;
        };
        len = refl;
      };
      carries = refl;
    }

config_sound : IsCarried (expected one) config_of
config_sound =
    record {
      sound = record {
        head = record {
          header = record {
            version = (le_refl 1, le-suc 1);
            session = omega arith;
            stream = omega arith;
            index = omega arith;
            shape = (omega arith, omega arith);
          };
          version = refl;
          session = refl;
          stream = λ _. omega arith;
        };
        len = refl;
      };
      carries = refl;
    }

end_is_sound : IsSoundPacket (expected one) (end_packet one)
end_is_sound =
    record {
      head = record {
        header = record {
          version = (le_refl 1, le-suc 1);
          session = omega arith;
          stream = omega arith;
          index = omega arith;
          shape = (refl, refl, refl);
        };
        version = refl;
        session = refl;
        stream = λ carries. absurd cc;
      };
      len = refl;
    }

-- the first channel brought its end alone, and the second both packets
first_begins : BeginsSoundly one end_bytes
unfolding head_bytes
first_begins =
    record {
      whole = end_bytes;
      packets = [];
      sound = record {
        rest = end_bytes;
        each = tt;
        encoded = refl;
        ends = record { packet = end_packet one; sound = end_is_sound; of_kind = refl; encoded = refl };
      };
      front = all_is_front end_bytes;
    }

second_begins : BeginsSoundly one (config_packet ++ data_packet ++ end_bytes)
unfolding head_bytes
second_begins =
    record {
      whole = config_packet ++ data_packet ++ end_bytes;
      packets = config_of ∷ data_of ∷ [];
      sound = record {
        rest = end_bytes;
        each = (config_sound, (data_sound, tt));
        encoded = refl;
        ends = record { packet = end_packet one; sound = end_is_sound; of_kind = refl; encoded = refl };
      };
      front = all_is_front (config_packet ++ data_packet ++ end_bytes);
    }

-- what stands behind their packets
first_end : HasEnd one (receives end_bytes)
unfolding reading_of decoded head_fault word_at channel_limit head_bytes
first_end = refl

second_end : HasEnd one (receives (config_packet ++ data_packet ++ end_bytes))
unfolding reading_of decoded head_fault word_at channel_limit head_bytes
second_end = refl

end_is_piece : (sent : List Packet) (bytes : List ℕ) → bytes ≡ packet_bytes (end_packet one)
    → IsPieceOf (end_packet one ∷ sent) bytes
end_is_piece sent bytes is =
    inl (subst (λ (l : List ℕ). IsFront l (packet_bytes (end_packet one))) (sym is)
    (all_is_front (packet_bytes (end_packet one))))

exchanged : IsPermutation (config_of ∷ data_of ∷ []) (data_of ∷ config_of ∷ [])
exchanged = record { moves = (0, 1) ∷ []; below = (omega arith, omega arith, tt); is = refl }

came : packets_received one crossed ≡ config_of ∷ data_of ∷ []
unfolding reading_of decoded head_fault word_at channel_limit head_bytes
came = refl

were_sent : packets_sent one crossed ≡ data_of ∷ config_of ∷ []
unfolding reading_of decoded head_fault word_at channel_limit head_bytes
were_sent = refl

-- of both channels
both : (P : Line → Type 0) → P (receives end_bytes) → P (receives (config_packet ++ data_packet ++ end_bytes))
    → All P crossed.dest
both P first second =
    All-cons P (receives end_bytes) (receives (config_packet ++ data_packet ++ end_bytes) ∷ []) first
    (All-cons P (receives (config_packet ++ data_packet ++ end_bytes)) [] second (All-nil P))

pub returns-clause-carries : goal.returns-clause-carries
returns-clause-carries c =
    record {
      sound = both (λ line. BeginsSoundly one line.received) first_begins second_begins;
      missing = [];
      among =
          subst (λ (l : List Packet). IsPermutation (l ++ []) (packets_sent one crossed)) (sym came)
          (subst (IsPermutation (config_of ∷ data_of ∷ [])) (sym were_sent) exchanged);
      pieces =
          both (λ line. IsPieceOf (end_packet one ∷ packets_sent one crossed) (piece_in one line.received))
          (end_is_piece (packets_sent one crossed) (piece_in one end_bytes) first_end)
          (end_is_piece (packets_sent one crossed)
          (piece_in one (config_packet ++ data_packet ++ end_bytes)) second_end);
      ends = both (λ line. line.ended ≡ true → HasEnd one line) (λ ended. first_end) (λ ended. second_end);
      all = λ ended. refl;
      answer = record { front = nothing_is_front []; all = λ ended. refl };
      go = record { front = nothing_is_front []; all = λ ended. refl };
    }

pub returns-clause-received : goal.returns-clause-received
returns-clause-received c = came

pub returns-clause-sent : goal.returns-clause-sent
returns-clause-sent c = were_sent
