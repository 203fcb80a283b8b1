pub mod ThreeRecords
