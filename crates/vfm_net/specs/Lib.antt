pub mod TcpEnds
