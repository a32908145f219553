pub mod AllDevices
